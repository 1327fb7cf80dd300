use Rattle.std.proofs.Common.{◌≡◌, ℕ, sym, subst, rules, length}
use Rattle.std.specs.Prelude.{Result, Err}
use Rattle.journal.specs.declared.Form.TheVariants.{New}
use Rattle.conversion.specs.Promises.{Restores}
use Rattle.conversion.specs.declared.ConvertError.{ConvertError}
use Rattle.conversion.specs.declared.ConvertError.TheVariants as C
use Rattle.conversion.proofs.Handing.{fills-as, found, restored, restore-refused, new-headed}
use Rattle.conversion.proofs.restore.Goals as goal

pub hand_back-requires : goal.hand_back-requires
hand_back-requires c = let h = found New _ _ c.in_ok-judged_as.ensures in record { short = h.1.short; headed = new-headed h.1 }

pub returns-in_err-judged_as : goal.returns-in_err-judged_as
returns-in_err-judged_as c =
    let a = c.args in
    let e : c.from_residual.result ≡ Err (C.Refused c.in_err-judged_as.field-0.0) = search rules in
    subst (λ (r : Result ℕ ConvertError). Restores a.bytes.now r a.out.now a.out.now) (sym e) (restore-refused _ _ _ c.in_err-judged_as.ensures)

pub returns : goal.returns
returns c =
    let a = c.args in
    let h = found New a.bytes.now _ c.in_ok-judged_as.ensures in
    fills-as (restored a.bytes.now h.0 (length a.out.now) h.1) c.hand_back.ensures
