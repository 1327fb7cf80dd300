use mathlib.Core.Path.{◌≡◌, refl, sym, ap}
use Prim.Native.Nat.{ℕ}
use Rattle.calls.specs.Reads.{size_of}
use Rattle.calls.specs.declared.Call.TheVariants as C
use Rattle.calls.specs.declared.Call as declared
use Rattle.calls.specs.declared.Use.{Use}
use Rattle.calls.proofs.size_of.Goals as goal

-- any other call carries no bytes
none : (r : declared.Call) → ((n room : ℕ) → r ≡ C.Request n room → ⊥) → ((n room : ℕ) → r ≡ C.Modbus n room → ⊥) → ((u : Use) (n k : ℕ) → r ≡ C.Bytes u n k → ⊥) → 0 ≡ size_of r
unfolding size_of
none (C.Tick x i) a b d = refl
none (C.Request n room) a b d = absurd (a n room refl)
none (C.Modbus n room) a b d = absurd (b n room refl)
none (C.Order o) a b d = refl
none (C.Item i) a b d = refl
none (C.Bytes u n k) a b d = absurd (d u n k refl)
none C.Unknown a b d = refl

pub returns-in-Request : goal.returns-in-Request
unfolding size_of
returns-in-Request c = sym (ap size_of c.in-Request.is)

pub returns-in-Modbus : goal.returns-in-Modbus
unfolding size_of
returns-in-Modbus c = sym (ap size_of c.in-Modbus.is)

pub returns-in-Bytes : goal.returns-in-Bytes
unfolding size_of
returns-in-Bytes c = sym (ap size_of c.in-Bytes.is)

pub returns-in_default : goal.returns-in_default
returns-in_default c = none c.args.call c.in_default.not-Request c.in_default.not-Modbus c.in_default.not-Bytes
