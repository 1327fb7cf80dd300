use native.Mathlib.Omega.{arith}
use lib.ListN.{length-set}
use Rattle.message.specs.Message.{address_bytes}
use Rattle.message.proofs.put_address.Goals as goal

pub bounds-out-1 : goal.bounds-out-1
bounds-out-1 c = simp length-set (omega arith)

pub bounds-out-2 : goal.bounds-out-2
bounds-out-2 c = simp length-set (omega arith)

pub bounds-out-3 : goal.bounds-out-3
bounds-out-3 c = simp length-set (omega arith)

pub returns-in-Address : goal.returns-in-Address
unfolding address_bytes
returns-in-Address c = let e = c.in-Address.is in record { after = rw e; left = rw e }

pub returns-in-Serial : goal.returns-in-Serial
unfolding address_bytes
returns-in-Serial c = let e = c.in-Serial.is in record { after = rw e; left = rw e }
