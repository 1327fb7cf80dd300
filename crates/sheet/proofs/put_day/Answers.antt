use Rattle.sheet.proofs.Days.{day-put}
use Rattle.sheet.proofs.put_day.Goals as goal

pub returns : goal.returns
returns c =
    let a = c.args in
    day-put a.d _ a.day c.letter_of.ensures c.requires
    c.put_decimal-p.ensures
    c.put_byte-p.ensures
    c.put_byte-p-2.ensures
    c.put_byte-p-3.ensures
    c.put_decimal-p-2.ensures
    c.put_byte-p-4.ensures
    c.put_decimal-p-3.ensures
    c.put_byte.ensures
