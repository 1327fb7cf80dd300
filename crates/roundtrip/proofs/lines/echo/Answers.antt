-- 31 bytes hold any line in range, and what was written there is read as the line.
use mathlib.Core.Path.{◌≡◌, refl, sym, ap, ◌∙◌}
use mathlib.Core.Bool.{Bool, true, false}
use mathlib.Core.List.{List, [], ◌∷◌}
use Prim.Native.Nat.{ℕ, ◌≤◌}
use native.Mathlib.Omega.{arith}
use lib.Dec.{lit≤}
use lib.ListN.{length, take}
use lib.Seq.{take_at, length-take-le}
use Rattle.laws.specs.Pick.{pick-t, pick-f}
use Rattle.laws.specs.Over.{over}
use Rattle.paper.specs.Answer.{Answer, done, refused, told, leaves, Fills}
use Rattle.paper.specs.AnswerLaws.{refused-done}
use Rattle.paper.specs.Numbers.{R10}
use Rattle.journal.specs.Line.{in_range, text_of, write_of, one_line}
use Rattle.journal.specs.LineLaws.{text-most, write-range, write-fits}
use Rattle.journal.specs.Singles.{one-text}
use Rattle.std.specs.Prelude.{Ok, Err}
use Rattle.journal.specs.Says.{One, says_one, one-one}
use Rattle.entry.specs.Says.{Wrote, says_wrote, wrote_one}
use Rattle.journal.specs.declared.Form.{Form}
use Rattle.journal.specs.declared.Line.{Line}
use Rattle.journal.specs.declared.Entry.{Entry}
use Rattle.journal.specs.declared.LineError.{LineError}
use Rattle.journal.specs.declared.Entry.TheVariants as O
use Rattle.roundtrip.specs.Lines.{echo_of}
use Rattle.roundtrip.proofs.lines.echo.Goals as goal
use Rattle.roundtrip.proofs.lines.echo.Goals.{In-Ok}

-- what the writer left where it answered a length
record Written (f : Form) (l : Line) (n : ℕ) (new : List ℕ) : Type 0 where
  range : in_range f l ≡ true
  text : take n new ≡ text_of f l
  room : n ≤ length new

written : (f : Form) (l : Line) {w : Wrote} (n : ℕ) {old new : List ℕ} → Fills (says_wrote w) (write_of f l (length old)) old new → 31 ≤ length old → length new ≡ length old → w ≡ Ok n → Written f l n new
unfolding told leaves over
written f l {w} n {old} {new} x h k q = go (in_range f l) refl
  where
    go : (b : Bool) → in_range f l ≡ b → Written f l n new
    go true e =
        let m = text-most f l e in
        let r = write-fits f l (length old) e (omega arith) in
        let s : done n ≡ done (length (text_of f l)) = ap says_wrote (sym q) ∙ x.says ∙ ap (told length) r in
        let i : n ≡ length (text_of f l) = cc in
        record {
          range = e;
          text = ap (take n) (x.left ∙ ap (λ (a : Answer (List ℕ)). leaves a old) r) ∙ take_at (text_of f l) _ n (sym i);
          room = omega arith;
        }
    go false e = refused-done (sym (ap says_wrote (sym q) ∙ x.says ∙ ap (told length) (write-range f l (length old) e)))

-- the writer answered the length of a line in range
answered : (f : Form) (l : Line) {w : Wrote} {old new : List ℕ} → Fills (says_wrote w) (write_of f l (length old)) old new → 31 ≤ length old → in_range f l ≡ true → w ≡ Ok (length (text_of f l))
unfolding told
answered f l {w} {old} x h e = let m = text-most f l e in wrote_one w (Ok (length (text_of f l))) (x.says ∙ ap (told length) (write-fits f l (length old) e (omega arith)))

abbrev F : In-Ok → Form
F c = c.args.form

abbrev L : In-Ok → Line
L c = c.args.line

filled : (c : In-Ok) → Written (F c) (L c) c.in-Ok.len c.write.new.out
filled c = let w = c.write in written (F c) (L c) c.in-Ok.len w.ensures (lit≤ tt) w.auto.out c.in-Ok.is

-- and the reader read it back
read_back : (f : Form) (l : Line) (n : ℕ) {new : List ℕ} {r : One} → Written f l n new → says_one r ≡ one_line f (take n new) → r ≡ Ok (O.Line l)
read_back f l n {r = r} w e = one-one r (Ok (O.Line l)) (e ∙ ap (one_line f) w.text ∙ one-text f l w.range)

pub returns-in_default : goal.returns-in_default
unfolding echo_of
returns-in_default c = go (in_range c.args.form c.args.line) refl
  where
    go : (b : Bool) → in_range c.args.form c.args.line ≡ b
        → refused R10 (0 ∷ []) ≡ echo_of c.args.form c.args.line
    go true e = absurd (c.in_default.not-Ok _ (answered c.args.form c.args.line {w = c.write.result} c.write.ensures (lit≤ tt) e))
    go false e = sym (pick-f _ _ _ e)

pub slice_bounds-buffer-end : goal.slice_bounds-buffer-end
slice_bounds-buffer-end c = (filled c).room

pub slice_bounds-read_line-end : goal.slice_bounds-read_line-end
slice_bounds-read_line-end c = sym (length-take-le _ _ (filled (goal.at.slice_bounds-read_line-end c).In-Ok).room)

same_ok : {x y : Entry} → Path One (Ok x) (Ok y) → x ≡ y
same_ok e = cc

ok_err : {Q : Type 0} {x : Entry} {r : LineError} → Path One (Err r) (Ok x) → Q
ok_err e = let z : ◌≡◌ {A = ℕ} 0 1 = cc in absurd (omega arith)

pub returns-in_err-read : goal.returns-in_err-read
returns-in_err-read c = ok_err (sym c.in_err-read.was ∙ read_back _ _ _ (filled (goal.at.returns-in_err-read c).In-Ok) c.read_line.ensures)

pub returns-in_default-2 : goal.returns-in_default-2
returns-in_default-2 c = absurd (c.in_default-2.not-Line _ (same_ok (sym c.in_ok-read.was ∙ read_back _ _ _ (filled (goal.at.returns-in_default-2 c).In-Ok) c.read_line.ensures)))

pub returns : goal.returns
unfolding echo_of
returns c =
    let w = filled (goal.at.returns c).In-Ok in
    ap done (same_line (sym c.in-Line.is ∙ same_ok (sym c.in_ok-read.was ∙ read_back _ _ _ w c.read_line.ensures))) ∙ sym (pick-t _ _ _ w.range)
  where
    same_line : {x y : Line} → O.Line x ≡ O.Line y → x ≡ y
    same_line e = cc
