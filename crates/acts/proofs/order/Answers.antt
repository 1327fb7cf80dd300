use mathlib.Core.Path.{refl, ap}
use Rattle.series.specs.Events.{run, event_of}
use Rattle.acts.specs.Acts.{order_events, call_events, events_in, made_by, taken, cleared, counted, explained, said_of, said_to}
use Rattle.acts.specs.Makes.{says_act}
use Rattle.acts.proofs.Making.{ordered-as}
use Rattle.acts.proofs.order.Goals as goal

pub returns-in-Link : goal.returns-in-Link
unfolding made_by events_in call_events order_events run event_of said_to said_of says_act
returns-in-Link c = let h = c.link.ensures in ordered-as c.in-Link.is (record { made = record { next = h.is; sound = h.sound }; says = refl })

pub returns-in-Settings : goal.returns-in-Settings
unfolding made_by events_in call_events order_events run event_of said_to said_of says_act
returns-in-Settings c = let h = c.configure-configured.ensures in ordered-as c.in-Settings.is (record { made = record { next = h.next; sound = h.sound }; says = ap taken h.says })

pub returns-in-Reset : goal.returns-in-Reset
unfolding made_by events_in call_events order_events run event_of said_to said_of says_act
returns-in-Reset c = let h = c.reset-cleared.ensures in ordered-as c.in-Reset.is (record { made = record { next = h.next; sound = h.sound }; says = ap cleared h.says })

pub returns-in-Counters : goal.returns-in-Counters
unfolding made_by events_in call_events order_events run event_of said_to said_of says_act
returns-in-Counters c = ordered-as c.in-Counters.is (record { made = record { next = refl; sound = c.requires }; says = ap counted c.counted.ensures })

pub returns-in-Restart : goal.returns-in-Restart
returns-in-Restart c = ordered-as c.in-Restart.is c.restart.ensures

pub returns-in-Why : goal.returns-in-Why
unfolding made_by events_in call_events order_events run event_of said_to said_of says_act
returns-in-Why c = ordered-as c.in-Why.is (record { made = record { next = refl; sound = c.requires }; says = ap explained c.why.ensures })
