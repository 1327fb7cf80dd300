-- What was written is read back: the room always suffices, and the round trip does the rest.
use mathlib.Core.Path.{◌≡◌, refl, sym, ap, ap₂, ◌∙◌}
use mathlib.Core.Bool.{Bool, true, false}
use mathlib.Core.List.{List, [], ◌∷◌, ◌++◌, append_assoc, append-nil}
use Prim.Native.Nat.{ℕ, suc, ◌+◌, ◌-◌, ◌≤◌}
use native.Mathlib.Omega.{arith}
use borrow.Author.Tests.{le-leb}
use lib.ListN.{length, take, drop, set, replicate, length-append}
use lib.Seq.{take_at, set_at, length-take-le}
use Rattle.laws.specs.Pick.{pick-t, pick-f}
use Rattle.laws.specs.Over.{over}
use Rattle.paper.specs.Answer.{Answer, done, refused, told, in_room, leaves, Fills}
use Rattle.paper.specs.Numbers.{R14}
use Rattle.frame.specs.Check.{check}
use Rattle.frame.specs.Frame.{frame, framable, write_of}
use Rattle.frame.specs.FrameLaws.{frame-most, framable-is}
use Rattle.frame.specs.Read.{read_of}
use Rattle.frame.specs.RoundTrip.{round-trip-first}
use Rattle.std.specs.Prelude.{Result, Ok, Err}
use Rattle.frame.specs.Says as read
use Rattle.frame.specs.Says.{says_wrote, wrote_one, found-one, ReadsFrame}
use Rattle.frame.specs.declared.WriteError.{WriteError}
use Rattle.frame.specs.declared.ReadError.{ReadError}
use Rattle.frame.specs.declared.Finished.{Finished}
use Rattle.roundtrip.specs.declared.frames.Echo.{Echo}
use Rattle.roundtrip.specs.Frames.{echo_of, handed}
use Rattle.roundtrip.proofs.frames.echo_frame.Goals as goal
use Rattle.roundtrip.proofs.frames.echo_frame.Goals.{In-Ok, In-Ok-read_frame}

-- the first n bytes of the line are the body's frame
record Lined (b line : List ℕ) (n : ℕ) : Type 0 where
  frames : framable b ≡ true
  fits : n ≤ length line
  is : take n line ≡ frame b

-- a body of n bytes, its check byte among them; without it, it is the one that was given
record Back (b body : List ℕ) (n : ℕ) : Type 0 where
  frames : framable b ≡ true
  one_more : n ≡ length b + 1
  small : n ≤ 255
  holds : set body (n - 1) 0 ≡ b ++ replicate (255 - length b) 0

-- what was written into 513 bytes
module _ (b old new : List ℕ) (w : Result ℕ WriteError) (room : length old ≡ 513) (fills : Fills (says_wrote w) (write_of b (length old)) old new) where
  written : framable b ≡ true → write_of b (length old) ≡ done (frame b)
  unfolding write_of in_room
  written f = pick-t _ _ _ f ∙ pick-t _ _ _ (le-leb (length (frame b)) (length old) (omega (arith, frame-most b f)))

  answered : framable b ≡ true → w ≡ Ok (length (frame b))
  unfolding told
  answered f = wrote_one w (Ok (length (frame b))) (fills.says ∙ ap (told length) (written f))

  was-framable : (n : ℕ) → w ≡ Ok n → framable b ≡ true
  unfolding write_of told
  was-framable n e = go (framable b) refl
    where
      go : (t : Bool) → framable b ≡ t → framable b ≡ true
      go true f = f
      go false f =
          let r = fills.says ∙ ap (told length) (pick-f _ _ _ f) in
          let z : ◌≡◌ {A = ℕ} 0 1 = cc in
          absurd (omega arith)

  lined : (n : ℕ) → w ≡ Ok n → Lined b new n
  unfolding leaves over
  lined n e =
      let f = was-framable n e in
      let same = answered f in
      let l : n ≡ length (frame b) = cc in
      let left : new ≡ frame b ++ drop (length (frame b)) old = fills.left ∙ rw (written f) in
      record {
        frames = f;
        fits = rw (left, length-append) (omega arith);
        is = rw left (take_at (frame b) _ n (sym l));
      }

-- what was read back
module _ (b : List ℕ) (r : Result Finished ReadError) (f : framable b ≡ true) (reads : ReadsFrame (frame b) r) where
  back : read_of (frame b) ≡ done (record { place = length (frame b) - 1; bytes = b ++ check b ∷ [] })
  back = rw append-nil at (round-trip-first b [] f)

  found : r ≡ Ok (read.handed (record { place = length (frame b) - 1; bytes = b ++ check b ∷ [] }))
  unfolding told
  found = found-one r (Ok _) (reads ∙ rw back)

  given_back : (g : Finished) → r ≡ Ok g → Back b g.body g.len
  given_back g e =
      let c = check b in
      let all : length (b ++ c ∷ []) ≡ length b + 1 = length-append b (c ∷ []) in
      let same : g ≡ read.handed (record { place = length (frame b) - 1; bytes = b ++ c ∷ [] }) = cc (found) in
      let l : g.len ≡ length (b ++ c ∷ []) = ap (λ (x : Finished). x.len) same in
      let more : 255 - length b ≡ suc (255 - length (b ++ c ∷ [])) = omega (arith, (framable-is b f).most) in
      let held : g.body ≡ b ++ c ∷ replicate (255 - length (b ++ c ∷ [])) 0 = ap (λ (x : Finished). x.body) same ∙ append_assoc b (c ∷ []) (replicate (255 - length (b ++ c ∷ [])) 0) in
      record {
        frames = f;
        one_more = l ∙ all;
        small = omega (arith, (framable-is b f).most);
        holds = rw (held, more) (set_at b c _ 0 (g.len - 1) (omega arith));
      }

pub returns-in_default : goal.returns-in_default
unfolding echo_of told
returns-in_default c = go (framable _) refl
  where
    go : (t : Bool) → framable c.args.body.now ≡ t → refused R14 [] ≡ told handed (echo_of c.args.body.now)
    go true f = absurd (c.in_default.not-Ok _ (answered _ _ _ c.write_frame.result refl c.write_frame.ensures f))
    go false f = sym (ap (told handed) (pick-f _ _ _ f))

at-line : (c : In-Ok) → Lined c.args.body.now c.write_frame.new.out c.in-Ok.n
at-line c = let wrote = c.write_frame in lined _ _ _ wrote.result refl wrote.ensures _ c.in-Ok.is

pub slice_bounds-line-end : goal.slice_bounds-line-end
slice_bounds-line-end c = (at-line c).fits

pub slice_bounds-read_frame-end : goal.slice_bounds-read_frame-end
slice_bounds-read_frame-end c = sym (length-take-le _ _ (at-line (goal.at.slice_bounds-read_frame-end c).In-Ok).fits)

pub returns-in_default-read_frame : goal.returns-in_default-read_frame
returns-in_default-read_frame c =
    let l = at-line (goal.at.returns-in_default-read_frame c).In-Ok in
    let e = found _ c.read_frame.result l.frames (rw l.is at c.read_frame.ensures) in
    absurd (c.in_default-read_frame.not-Ok _ e)

at-end : (c : In-Ok-read_frame) → Back c.args.body.now c.in-Ok-read_frame.back.body c.in-Ok-read_frame.back.len
at-end c =
    let wrote = c.write_frame in
    let l = lined _ _ _ wrote.result refl wrote.ensures _ c.in-Ok.is in
    given_back _ c.read_frame.result l.frames (rw l.is at c.read_frame.ensures) _ c.in-Ok-read_frame.is

pub overflow_sub-len : goal.overflow_sub-len
overflow_sub-len c = let k = at-end (goal.at.overflow_sub-len c).In-Ok-read_frame in omega (arith, k.one_more)

pub bounds-bytes-len : goal.bounds-bytes-len
bounds-bytes-len c = let k = at-end (goal.at.bounds-bytes-len c).In-Ok-read_frame in omega (arith, k.one_more, k.small)

pub returns : goal.returns
unfolding echo_of told
returns c =
    let k = at-end (goal.at.returns c).In-Ok-read_frame in
    let size : c.in-Ok-read_frame.back.len - 1 ≡ length c.args.body.now = omega (arith, k.one_more) in
    ap₂ {C = Answer Echo} (λ (l : List ℕ) (n : ℕ). done (record { body = l; len = n })) k.holds size
    ∙ sym (ap (told handed) (pick-t _ _ _ k.frames))
