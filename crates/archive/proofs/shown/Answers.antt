use Rattle.std.proofs.Common.{◌≡◌, refl, sym, subst, List, ℕ, rules, arith}
use Rattle.std.specs.Prelude.{Result, Ok, Err}
use Rattle.conversion.specs.declared.ConvertError.{ConvertError}
use Rattle.conversion.specs.declared.ConvertError.TheVariants as C
use Rattle.archive.specs.Promises.{Shows}
use Rattle.report.specs.declared.Printout.{Printout}
use Rattle.archive.proofs.shown.Goals as goal

-- an arm of the match
arm : (x y : Result ℕ ConvertError) (out : List ℕ) (r : Printout 65536) → x ≡ y → Shows y out r → Shows x out r
arm x y out r e h = subst (λ (z : Result ℕ ConvertError). Shows z out r) (sym e) h

pub returns-in-Ok : goal.returns-in-Ok
returns-in-Ok c = arm _ _ _ _ c.in-Ok.is refl

pub returns-in-Err-Refused : goal.returns-in-Err-Refused
returns-in-Err-Refused c =
    let e : c.args.converted ≡ Err (C.Refused c.in-Err-Refused.refusal) = search rules in
    arm _ _ _ _ e (c.refusal_report.ensures.holds (omega arith))

pub returns-in-Err-R18 : goal.returns-in-Err-R18
returns-in-Err-R18 c =
    let e : c.args.converted ≡ Err (C.R18 c.in-Err-R18.line) = search rules in
    arm _ _ _ _ e (c.refusal_line.ensures.holds (omega arith))

pub returns-in-Err-R8 : goal.returns-in-Err-R8
returns-in-Err-R8 c =
    let e : c.args.converted ≡ Err C.R8 = search rules in
    arm _ _ _ _ e (c.refusal_line-in-Err-R8.ensures.holds (omega arith))
