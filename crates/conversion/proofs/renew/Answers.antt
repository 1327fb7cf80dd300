use Rattle.std.proofs.Common.{◌≡◌, ℕ, sym, subst, rules, length}
use Rattle.std.specs.Prelude.{Result, Err}
use Rattle.journal.specs.declared.Form.TheVariants.{Old}
use Rattle.conversion.specs.Promises.{Renews}
use Rattle.conversion.specs.declared.ConvertError.{ConvertError}
use Rattle.conversion.specs.declared.ConvertError.TheVariants as C
use Rattle.conversion.proofs.Handing.{fills-as, found, renewed, renew-refused}
use Rattle.conversion.proofs.renew.Goals as goal

pub hand_over-requires : goal.hand_over-requires
hand_over-requires c = let h = found Old _ _ c.in_ok-judged_as.ensures in h.1.short

pub returns-in_err-judged_as : goal.returns-in_err-judged_as
returns-in_err-judged_as c =
    let a = c.args in
    let e : c.from_residual.result ≡ Err (C.Refused c.in_err-judged_as.field-0.0) = search rules in
    subst (λ (r : Result ℕ ConvertError). Renews a.bytes.now r a.out.now a.out.now) (sym e) (renew-refused _ _ _ c.in_err-judged_as.ensures)

pub returns : goal.returns
returns c =
    let a = c.args in
    let h = found Old a.bytes.now _ c.in_ok-judged_as.ensures in
    fills-as (renewed a.bytes.now h.0 (length a.out.now) h.1) c.hand_over.ensures
