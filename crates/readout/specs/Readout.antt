-- What a master asks of the box's parts (document 01, "On the line"; document 02, W2). Assumes nothing.
use Rattle.std.specs.Prelude.{Bool, not, ◌&&◌, ◌||◌, ℕ, leb, eqb, Option, Some, None, Result, Ok, Err}
use Rattle.laws.specs.Pick.{pick}
use Rattle.settings.specs.declared.Settings.{Settings}
use Rattle.window.specs.Window.{samples_of}
use Rattle.window.specs.declared.Window.{Window}
use Rattle.field.specs.Field.{writable, field_of}
use Rattle.field.specs.declared.Weight.{Weight}
use Rattle.dosing.specs.Rules.{units, near_zero}
use Rattle.dosing.specs.declared.Units.{Units}
use Rattle.dosing.specs.declared.Gates.{Gates}
use Rattle.channels.specs.Channels.{outputs_of}
use Rattle.counters.specs.declared.Counters.{Counters}
use Rattle.scale.specs.Scale.{filtered, none, weight_by}
use Rattle.single.specs.Single.{registers_of}
use Rattle.single.specs.declared.Words.{Words}
use Rattle.registers.specs.declared.Values.{Values}
use Rattle.asking.specs.declared.Reply.{Reply}
use Rattle.asking.specs.declared.Reply.TheVariants as R

-- ---- C0

-- not in AL2 or AL3, nor with no sample, and with -M < F < M
unfoldable pub zeroable : Settings → Window → Bool
zeroable set window = leb set.algorithm 1 && not (none (samples_of window)) && near_zero set (filtered window set.p8)

-- C0 asks it; no other request does
unfoldable pub may_zero : ℕ → Settings → Window → Bool
may_zero op set window = not (eqb op 0xC0) || zeroable set window

-- C0 zeroes (Z becomes F, by p8)
unfoldable pub zero_to : ℕ → Settings → Window → Units → Units
zero_to op set window z = pick (eqb op 0xC0) (units (filtered window set.p8)) z

-- Z after a request; what it would be, where the samples do not allow it
unfoldable pub zeroing : ℕ → Settings → Window → Units → Result Units Units
zeroing op set window z = pick (may_zero op set window) (Ok (zero_to op set window z)) (Err (zero_to op set window z))

-- ---- a reply

-- weight and CON; a weight that cannot be written, which no sound controller has, gives nothing
unfoldable pub weight_in : Weight → Reply
weight_in v = pick (writable v) (R.Weight (field_of v)) R.Nothing

-- C3 and C2 answer weight and CON by p8 and p7; C4 the inputs last kept, C5 the outputs; C0 nothing
unfoldable pub reply_for : ℕ → Settings → Window → Units → ℕ → ℕ → Gates → Bool → Reply
reply_for op set window z s inputs gates alarm =
    pick (eqb op 0xC3) (weight_in (weight_by set window z s set.p8))
    (pick (eqb op 0xC2) (weight_in (weight_by set window z s set.p7))
    (pick (eqb op 0xC4) (R.Byte inputs) (pick (eqb op 0xC5) (R.Byte (outputs_of gates alarm)) R.Nothing)))

-- ---- the registers

-- zeros for a number that is no weight within the range
unfoldable pub words_from : Option Words → Words
words_from (Some w) = w
words_from None = record { high = 0; low = 0 }

-- the weight as an f32; one that cannot be written, which no sound controller has, gives zeros
unfoldable pub words_in : Weight → Words
words_in v = pick (writable v) (words_from (registers_of v.value)) (words_from None)

-- the C3 weight by p8 and the C2 weight by p7, the inputs last kept, the outputs, count and total, the link start
unfoldable pub values_for : Settings → Window → Units → ℕ → ℕ → Gates → Bool → Counters → Bool → Values
values_for set window z s inputs gates alarm n link =
    record {
      c3 = words_in (weight_by set window z s set.p8);
      c2 = words_in (weight_by set window z s set.p7);
      inputs = inputs;
      outputs = outputs_of gates alarm;
      count = n.count;
      total = n.total;
      link = link;
    }
