-- The phase rules (document 01, "One tick", step 7: AL1, AL0, AL2, AL3). Assumes nothing.
use Rattle.std.specs.Prelude.{Bool, true, false, not, ◌&&◌, ◌||◌, ℕ, ◌+◌, ◌*◌, leb, eqb, ℤ, pos, negsuc, neg_ℤ, ◌-ℤ◌, Option, Some, None}
use Rattle.std.specs.Int.Signed.{lt_z, le_z}
use Rattle.laws.specs.Pick.{pick}
use Rattle.settings.specs.declared.Settings.{Settings}
use Rattle.settings.specs.Table.{wc, wf}
use Rattle.dosing.specs.declared.Units.{Units}
use Rattle.dosing.specs.declared.Gates.{Gates}
use Rattle.dosing.specs.declared.Phase.{Phase}
use Rattle.dosing.specs.declared.Phase.TheVariants.{Ready, Coarse, Fine, Hold, Settle, Discharge, Load, Calm, DoseCoarse, DoseFine, DoseSettle}
use Rattle.dosing.specs.declared.Seen.{Seen}
use Rattle.dosing.specs.declared.Dose.{Dose}
use Rattle.dosing.specs.declared.Moved.{Moved}

abbrev pub units : ℤ → Units
units x = record { v = x }

-- outputs 1, 2 and 3: open or shut
abbrev pub gates : Bool → Bool → Bool → Gates
gates one two three = record { one = one; two = two; three = three }

abbrev pub shut : Gates
shut = gates false false false

-- a completed dose: its amount, and whether its Settle ended stable
abbrev pub dosed : ℕ → Bool → Option Dose
dosed amount settled = Some (record { amount = amount; settled = settled })

-- the phase goes on or changes, and no dose completes
abbrev pub to : Phase → Gates → Seen → Moved
to p g t = record { phase = p; z = t.z; gates = g; dose = None }

-- the dose is complete, Ready
abbrev pub complete : ℕ → Bool → Seen → Moved
complete amount settled t = record { phase = Ready; z = t.z; gates = shut; dose = dosed amount settled }

-- ---- what the stages compare: x is w in AL0 and AL1, wH-w in AL2 and AL3

unfoldable pub reached_wf : Settings → ℤ → Bool
reached_wf set x = le_z (pos (wf set)) x

unfoldable pub reached_wc : Settings → ℤ → Bool
reached_wc set x = le_z (pos (wc set)) x

-- the amount: below 0 it is 0
unfoldable pub not_below_zero : ℤ → ℕ
not_below_zero (pos n) = n
not_below_zero (negsuc n) = 0

-- ---- AL1, and AL0 where it is as AL1

-- Ready, on start: if -M < F < M then ..
unfoldable pub near_zero : Settings → ℤ → Bool
near_zero set f = lt_z (neg_ℤ (pos set.level)) f && lt_z f (pos set.level)

-- .. Z becomes F and w is 0
unfoldable pub zeroed : Settings → Seen → Seen
zeroed set t =
    pick (near_zero set t.f.v) (record { f = t.f; z = t.f; w = units (pos 0); start = t.start; stable = t.stable }) t

-- on reaching Wf: AL1 enters Settle, and the tick that enters is number 0; AL0 holds with both closed
unfoldable pub full : Settings → Units → Phase
full set w0 = pick (eqb set.algorithm 0) Hold (Settle w0 0)

-- Coarse stage: w >= Wf closes 1 and 2, Settle; else w >= Wc closes 1 and opens 2, fine stage; else 1 open, and 2 open exactly if o = 1
unfoldable pub coarse_stage : Settings → Units → Seen → Moved
coarse_stage set w0 t =
    pick (reached_wf set t.w.v) (to (full set w0) shut t)
    (pick (reached_wc set t.w.v) (to (Fine w0) (gates false true false) t)
    (to (Coarse w0) (gates true (eqb set.o 1) false) t))

-- Fine stage: w >= Wf closes 2, Settle; else 2 open
unfoldable pub fine_stage : Settings → Units → Seen → Moved
fine_stage set w0 t = pick (reached_wf set t.w.v) (to (full set w0) shut t) (to (Fine w0) (gates false true false) t)

-- w0 = w; go on at once as Fill, coarse stage
unfoldable pub fill_begins : Settings → Seen → Moved
fill_begins set t = coarse_stage set t.w t

-- Ready, on start: the zero, w0, Fill
unfoldable pub ready_to_fill : Settings → Seen → Moved
ready_to_fill set t = pick t.start (fill_begins set (zeroed set t)) (to Ready shut t)

-- AL0: Start off during Fill closes both, Ready; this is looked at before the weight
unfoldable pub fill : Settings → Seen → Moved → Moved
fill set t stage = pick (eqb set.algorithm 0 && not t.start) (to Ready shut t) stage

-- AL0: it holds with both closed until start goes off, then Ready
unfoldable pub hold : Seen → Moved
hold t = pick t.start (to Hold shut t) (to Ready shut t)

-- Settle: it ends on the first later tick that is stable or is number 256*p9
unfoldable pub settle_ends : Settings → ℕ → Bool → Bool
settle_ends set n stable = stable || leb (256 * set.p9) n

-- then wS = w, output 3 opens, Discharge
unfoldable pub discharge_opens : Units → Seen → Moved
discharge_opens w0 t = to (Discharge w0 t.w t.stable) (gates false false true) t

-- AL1, Settle at its tick number n
unfoldable pub settle : Settings → Units → ℕ → Seen → Moved
settle set w0 n t = pick (settle_ends set n t.stable) (discharge_opens w0 t) (to (Settle w0 n) shut t)

-- Amount: wS-wE if p11 = 0, wS-w0 if 1; below 0 it is 0
unfoldable pub amount_of : Settings → Units → Units → Units → ℕ
amount_of set w0 w_s w_e = pick (eqb set.p11 0) (not_below_zero (w_s.v -ℤ w_e.v)) (not_below_zero (w_s.v -ℤ w0.v))

-- Discharge: w < M closes 3, wE = w, the dose is complete, Ready
unfoldable pub discharge : Settings → Units → Units → Bool → Seen → Moved
discharge set w0 w_s settled t =
    pick (lt_z t.w.v (pos set.level)) (complete (amount_of set w0 w_s t.w) settled t)
    (to (Discharge w0 w_s settled) (gates false false true) t)

-- ---- AL2 and AL3

-- Load: w >= M closes 3, Calm
unfoldable pub load : Settings → Seen → Moved
load set t = pick (le_z (pos set.level) t.w.v) (to (Calm 0) shut t) (to Load (gates false false true) t)

-- Calm ends as Settle does, then Ready
unfoldable pub calm : Settings → ℕ → Seen → Moved
calm set n t = pick (settle_ends set n t.stable) (to Ready shut t) (to (Calm n) shut t)

-- Dose uses wH-w where AL1 uses w, with 1 and 2 both open in the coarse stage; then Settle
unfoldable pub dose_coarse : Settings → Units → Seen → Moved
dose_coarse set w_h t =
    pick (reached_wf set (w_h.v -ℤ t.w.v)) (to (DoseSettle w_h 0) shut t)
    (pick (reached_wc set (w_h.v -ℤ t.w.v)) (to (DoseFine w_h) (gates false true false) t)
    (to (DoseCoarse w_h) (gates true true false) t))

unfoldable pub dose_fine : Settings → Units → Seen → Moved
dose_fine set w_h t =
    pick (reached_wf set (w_h.v -ℤ t.w.v)) (to (DoseSettle w_h 0) shut t) (to (DoseFine w_h) (gates false true false) t)

-- at its end the dose is complete, amount wH-w or 0 if below 0, Ready
unfoldable pub dose_settle : Settings → Units → ℕ → Seen → Moved
dose_settle set w_h n t =
    pick (settle_ends set n t.stable) (complete (not_below_zero (w_h.v -ℤ t.w.v)) t.stable t) (to (DoseSettle w_h n) shut t)

-- Ready: w < D opens 3, Load, with or without start; else on start wH = w, Dose on the same tick
unfoldable pub ready_to_dose : Settings → Seen → Moved
ready_to_dose set t =
    pick (lt_z t.w.v (pos set.dose)) (to Load (gates false false true) t)
    (pick t.start (dose_coarse set t.w t) (to Ready shut t))

-- AL3 is AL2, but in Ready nothing happens without start
unfoldable pub waits : Settings → Seen → Bool
waits set t = leb 3 set.algorithm && not t.start

unfoldable pub ready : Settings → Seen → Moved
ready set t =
    pick (leb set.algorithm 1) (ready_to_fill set t)
    (pick (waits set t) (to Ready shut t) (ready_to_dose set t))

-- ---- the phase rule: a Settle or Calm that is at tick number n meets tick number n+1

unfoldable pub step_of : Settings → Phase → Seen → Moved
step_of set Ready t = ready set t
step_of set (Coarse w0) t = fill set t (coarse_stage set w0 t)
step_of set (Fine w0) t = fill set t (fine_stage set w0 t)
step_of set Hold t = hold t
step_of set (Settle w0 n) t = settle set w0 (n + 1) t
step_of set (Discharge w0 w_s settled) t = discharge set w0 w_s settled t
step_of set Load t = load set t
step_of set (Calm n) t = calm set (n + 1) t
step_of set (DoseCoarse w_h) t = dose_coarse set w_h t
step_of set (DoseFine w_h) t = dose_fine set w_h t
step_of set (DoseSettle w_h n) t = dose_settle set w_h (n + 1) t
