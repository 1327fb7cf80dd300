-- Laws that the proofs of the code cite. Assumes nothing.
use mathlib.Core.Path.{◌≡◌, refl, sym}
use mathlib.Core.Bool.{Bool, true, false, not, ◌&&◌}
use mathlib.Core.List.{[]}
use lib.Dec.{leb}
use Rattle.std.specs.Prelude.{Option, Some, None}
use Rattle.std.specs.Option.{unwrap_or}
use Rattle.laws.specs.Pick.{pick, pick-f}
use Rattle.paper.specs.Answer.{done, refused}
use Rattle.paper.specs.AnswerLaws.{refused-done, passed}
use Rattle.paper.specs.Numbers.{R16}
use Rattle.settings.specs.declared.Settings.{Settings}
use Rattle.window.specs.Window.{samples_of}
use Rattle.window.specs.declared.Window.{Window}
use Rattle.field.specs.Field.{writable, field_of, write_of}
use Rattle.field.specs.RoundTrip.{six-digits, point-most, written_small}
use Rattle.field.specs.declared.Weight.{Weight}
use Rattle.dosing.specs.Rules.{units, near_zero}
use Rattle.dosing.specs.declared.Units.{Units}
use Rattle.scale.specs.Scale.{filtered, none, showable}
use Rattle.single.specs.declared.Words.{Words}
use Rattle.asking.specs.declared.Reply.TheVariants as R
use Rattle.readout.specs.Readout.{zeroable, weight_in, words_from, words_in}

-- C0's test, by the samples held and F
pub zeroable-by : (set : Settings) (window : Window) {empty near : Bool} {f : Units}
    → f ≡ units (filtered window set.p8) → empty ≡ none (samples_of window) → near ≡ near_zero set f.v
    → zeroable set window ≡ (leb set.algorithm 1 && not empty && near)
unfolding zeroable
zeroable-by set window m e h = rw (e, h, m)

-- a weight that is not shown cannot be written
unshown : (v : Weight) (b : Bool) → writable v ≡ b → refused R16 [] ≡ pick b (done v) (refused R16 []) → b ≡ false
unfolding pick
unshown v true h e = refused-done e
unshown v false h e = refl

pub not-writable : (v : Weight) → refused R16 [] ≡ showable v → writable v ≡ false
unfolding showable
not-writable v e = unshown v (writable v) refl e

-- a weight that is shown is the weight itself, and can be written
pub is-writable : (v w : Weight) → done w ≡ showable v → (writable v ≡ true) × (w ≡ v)
unfolding showable
is-writable v w e =
    let p = passed (writable v) (done v) R16 [] w (sym e) in
    let says : done v ≡ done w = p.1 in
    let same : w ≡ v = cc in
    (p.0, same)

pub no-weight : (v : Weight) → refused R16 [] ≡ showable v → R.Nothing ≡ weight_in v
unfolding weight_in
no-weight v e = sym (pick-f _ _ _ (not-writable v e))

pub no_words : (v : Weight) → refused R16 [] ≡ showable v → record { high = 0; low = 0 } ≡ words_in v
unfolding words_in words_from
no_words v e = sym (pick-f _ _ _ (not-writable v e))

-- such a weight's field is written
pub written : (v : Weight) → writable v ≡ true → write_of v ≡ done (field_of v)
written v h = written_small v (six-digits v h) (point-most v h)

-- the words, or zeros
pub or-zeros : (r : Option Words) → unwrap_or r (record { high = 0; low = 0 }) ≡ words_from r
unfolding words_from
or-zeros None = refl
or-zeros (Some w) = refl
