use mathlib.Core.Path.{refl}
use Rattle.series.specs.Events.{run}
use Rattle.calls.specs.Reads.{as_call}
use Rattle.acts.specs.Acts.{call_events, events_in, made_by, said_to}
use Rattle.acts.specs.Makes.{says_act}
use Rattle.acts.specs.Hears.{heard_in}
use Rattle.acts.proofs.Making.{heard-by}
use Rattle.acts.proofs.other.Goals as goal

pub returns-in-Tick : goal.returns-in-Tick
unfolding heard_in as_call made_by events_in call_events run said_to says_act
returns-in-Tick c = heard-by c.args.bytes.now c.in-Tick.is c.unread.ensures

pub returns-in-Request : goal.returns-in-Request
unfolding heard_in as_call made_by events_in call_events run said_to says_act
returns-in-Request c = heard-by c.args.bytes.now c.in-Request.is c.requested.ensures

pub returns-in-Modbus : goal.returns-in-Modbus
unfolding heard_in as_call made_by events_in call_events run said_to says_act
returns-in-Modbus c = heard-by c.args.bytes.now c.in-Modbus.is c.polled.ensures

pub returns-in-Order : goal.returns-in-Order
unfolding heard_in as_call made_by events_in call_events run said_to says_act
returns-in-Order c = heard-by c.args.bytes.now c.in-Order.is c.order.ensures

pub returns-in-Item : goal.returns-in-Item
unfolding heard_in as_call made_by events_in call_events run said_to says_act
returns-in-Item c = heard-by c.args.bytes.now c.in-Item.is (record { made = record { next = refl; sound = c.requires }; says = refl })

pub returns-in-Bytes : goal.returns-in-Bytes
unfolding heard_in as_call made_by events_in call_events run said_to says_act
returns-in-Bytes c = heard-by c.args.bytes.now c.in-Bytes.is (record { made = record { next = refl; sound = c.requires }; says = refl })

pub returns-in-Unknown : goal.returns-in-Unknown
unfolding heard_in as_call made_by events_in call_events run said_to says_act
returns-in-Unknown c = heard-by c.args.bytes.now c.in-Unknown.is c.unread-in-Unknown.ensures
