-- A weight that can be written is the one replied, and within the range its words are the f32's. Assumes nothing.
use Rattle.std.specs.Prelude.{◌≡◌, refl, Bool, true, false, [], ◌∷◌, ℕ, eqb, Result, Ok}
use Rattle.std.specs.Result.{is_ok}
use Rattle.std.proofs.Common.{ap, sym, ◌∙◌}
use Rattle.laws.specs.Pick.{pick, pick-t, pick-if}
use Rattle.settings.specs.declared.Settings.{Settings}
use Rattle.window.specs.declared.Window.{Window}
use Rattle.field.specs.Field.{writable, field_of}
use Rattle.field.specs.declared.Field.{Field}
use Rattle.field.specs.declared.Weight.{Weight}
use Rattle.dosing.specs.declared.Units.{Units}
use Rattle.dosing.specs.declared.Gates.{Gates}
use Rattle.channels.specs.Channels.{outputs_of}
use Rattle.counters.specs.declared.Counters.{Counters}
use Rattle.scale.specs.Scale.{weight_by}
use Rattle.single.specs.Single.{InRange, words_of}
use Rattle.single.specs.Exact.{inside}
use Rattle.asking.specs.Asking.{field_bytes, reply_bytes}
use Rattle.asking.specs.declared.Reply.TheVariants as R
use Rattle.readout.specs.Readout.{may_zero, zero_to, zeroing, weight_in, reply_for, words_from, words_in, values_for}

pub weight-in : (v : Weight) → writable v ≡ true → weight_in v ≡ R.Weight (field_of v)
unfolding weight_in
weight-in v h = pick-t _ _ _ h

pub words-in : (v : Weight) → writable v ≡ true → InRange v.value → words_in v ≡ words_of v.value
unfolding words_in words_from
words-in v h r = pick-t _ _ _ h ∙ ap words_from (inside v.value r)

-- the bytes of what is picked
picked : (a b d e : Bool) (x y : Field) (i o : ℕ) → reply_bytes (pick a (R.Weight x) (pick b (R.Weight y) (pick d (R.Byte i) (pick e (R.Byte o) R.Nothing))))
    ≡ pick a (field_bytes x) (pick b (field_bytes y) (pick d (i ∷ []) (pick e (o ∷ []) [])))
unfolding pick reply_bytes
picked true b d e x y i o = refl
picked false true d e x y i o = refl
picked false false true e x y i o = refl
picked false false false true x y i o = refl
picked false false false false x y i o = refl

module _ (set : Settings) (window : Window) (z : Units) (s inputs : ℕ) (gates : Gates) (alarm : Bool)
    (fine : writable (weight_by set window z s set.p8) ≡ true) (coarse : writable (weight_by set window z s set.p7) ≡ true) where
  -- the data of a reply whose weights can be written
  pub reply-bytes : (op : ℕ) → reply_bytes (reply_for op set window z s inputs gates alarm)
      ≡ pick (eqb op 0xC3) (field_bytes (field_of (weight_by set window z s set.p8)))
      (pick (eqb op 0xC2) (field_bytes (field_of (weight_by set window z s set.p7)))
      (pick (eqb op 0xC4) (inputs ∷ []) (pick (eqb op 0xC5) (outputs_of gates alarm ∷ []) [])))
  unfolding reply_for
  reply-bytes op =
      rw (weight-in _ fine, weight-in _ coarse) (picked (eqb op 0xC3) (eqb op 0xC2) (eqb op 0xC4) (eqb op 0xC5) _ _ inputs (outputs_of gates alarm))

  -- the registers' values where both are within the range
  pub values-in : (n : Counters) (link : Bool) → InRange (weight_by set window z s set.p8).value → InRange (weight_by set window z s set.p7).value
      → values_for set window z s inputs gates alarm n link
      ≡ record {
        c3 = words_of (weight_by set window z s set.p8).value;
        c2 = words_of (weight_by set window z s set.p7).value;
        inputs = inputs;
        outputs = outputs_of gates alarm;
        count = n.count;
        total = n.total;
        link = link;
      }
  unfolding values_for
  values-in n link a b = rw (words-in _ fine a, words-in _ coarse b)

-- the samples allow the request, and then Z is so
module _ (op : ℕ) (set : Settings) (window : Window) (z : Units) where
  pub zeroing-may : is_ok (zeroing op set window z) ≡ may_zero op set window
  unfolding zeroing
  zeroing-may = pick-if (λ (o : Result Units Units). is_ok o ≡ may_zero op set window) (may_zero op set window) sym sym

  pub zeroing-to : may_zero op set window ≡ true → zeroing op set window z ≡ Ok (zero_to op set window z)
  unfolding zeroing
  zeroing-to h = pick-t _ _ _ h
