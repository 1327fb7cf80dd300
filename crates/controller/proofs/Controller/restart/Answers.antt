use mathlib.Core.Path.{◌≡◌, sym, ap, ◌∙◌}
use Prim.Native.Nat.{ℕ}
use Rattle.std.specs.Prelude.{Err}
use Rattle.std.proofs.lemmas.Result.{err_from_is_err_and}
use Rattle.laws.specs.Pick.{pick-t, pick-f}
use Rattle.paper.specs.Answer.{done, on_done}
use Rattle.settings.specs.Says.{says}
use Rattle.settings.specs.Table.{first_bad}
use Rattle.settings.specs.declared.Settings.{Settings}
use Rattle.settings.specs.declared.SettingError.{SettingError}
use Rattle.settings.specs.declared.SettingError.TheVariants as S
use Rattle.controller.specs.Restart.{stored_bad, restart_of}
use Rattle.controller.specs.Says.{says_restart, restart_error}
use Rattle.controller.specs.declared.RestartError.TheVariants as N
use Rattle.controller.proofs.Restarts.{restarts, not-restarted}
use Rattle.controller.proofs.Controller.restart.Goals as goal

-- what the check refuses the restart refuses
passed-on : (set : Settings) (count total : ℕ) (e : SettingError) → first_bad set ≡ says (Err e) → restart_of set count total ≡ says_restart (Err (restart_error e))
unfolding restart_of on_done
passed-on set count total (S.R2 row) h = rw h

-- R2
pub returns-in_err-check : goal.returns-in_err-check
returns-in_err-check c =
    let p = err_from_is_err_and c.from_residual.result c.from_residual.ensures.1 in
    rw (p.1, p.2) (not-restarted _ _ _ _ (passed-on c.args.set c.args.count c.args.total c.in_err-check.field-0.0 (sym c.in_err-check.ensures)))

-- R15
pub returns-then-count-total : goal.returns-then-count-total
unfolding restart_of on_done stored_bad
returns-then-count-total c =
    let good : first_bad c.args.set ≡ done tt = sym c.in_ok-check.ensures in
    not-restarted _ _ _ N.R15 (rw good (pick-t _ _ _ c.if-count-total.true))

pub returns : goal.returns
unfolding restart_of on_done stored_bad
returns c =
    let good : first_bad c.args.set ≡ done tt = sym c.in_ok-check.ensures in
    restarts _ _ _ (rw good (pick-f _ _ _ c.if-count-total.false) ∙ ap done (sym c.made.ensures))
