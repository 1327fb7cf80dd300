use native.Mathlib.Omega.{arith}
use borrow.Author.Rules.{rules}
use Rattle.text.specs.PutLaws.{digits-most}
use Rattle.sheet.specs.Lengths.{day-length}
use Rattle.sheet.proofs.day_len.Goals as goal

pub overflow_add-result : goal.overflow_add-result
overflow_add-result c = omega (arith, c.decimal_len.ensures, digits-most c.args.d (search rules), c.decimal_len-2.ensures, digits-most c.args.day.covered (search rules))

pub overflow_add-result-2 : goal.overflow_add-result-2
overflow_add-result-2 c = omega (arith, c.decimal_len.ensures, digits-most c.args.d (search rules), c.decimal_len-2.ensures, digits-most c.args.day.covered (search rules), c.decimal_len-3.ensures, digits-most c.args.day.sum (search rules))

pub overflow_add-result-3 : goal.overflow_add-result-3
overflow_add-result-3 c = omega (arith, c.decimal_len.ensures, digits-most c.args.d (search rules), c.decimal_len-2.ensures, digits-most c.args.day.covered (search rules), c.decimal_len-3.ensures, digits-most c.args.day.sum (search rules))

pub returns : goal.returns
returns c = record {
  is = omega (arith, c.decimal_len-3.ensures, c.decimal_len-2.ensures, c.decimal_len.ensures, day-length c.args.d c.args.day);
  small = omega (arith, c.decimal_len.ensures, digits-most c.args.d (search rules), c.decimal_len-2.ensures, digits-most c.args.day.covered (search rules), c.decimal_len-3.ensures, digits-most c.args.day.sum (search rules));
}
