use Rattle.std.proofs.Common.{◌≡◌, refl, ap, ◌∙◌, length, arith}
use Rattle.std.proofs.lemmas.List.{take_rest}
use Rattle.conversion.specs.Bytes.{other_from}
use Rattle.conversion.proofs.Handing.{fills-as, back-other, back_none}
use Rattle.conversion.proofs.hand_back.Goals as goal

pub returns-in-Some : goal.returns-in-Some
returns-in-Some c =
    let n : c.in-Some.line ≡ 0 → ⊥ = λ e. omega (arith, c.in-Some.ensures.some) in
    back-other c.args.bytes.now _ _ (c.in-Some.ensures.line ∙ ap (other_from 2 0) (take_rest c.args.bytes.now 4)) n

pub returns : goal.returns
returns c =
    let a = c.args in
    fills-as (back_none a.bytes.now (length a.out.now) 0 (c.in_default.ensures.line ∙ ap (other_from 2 0) (take_rest a.bytes.now 4)) refl) c.hand_over.ensures
