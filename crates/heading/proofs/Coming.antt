-- What a step of the lines and a read make of the bytes that came. Assumes nothing.
use mathlib.Core.Path.{◌≡◌, refl, sym, ap, ◌∙◌, subst}
use mathlib.Core.Bool.{Bool, true, false, ◌||◌}
use mathlib.Core.List.{List, [], ◌∷◌, ◌++◌, append_assoc, append-nil}
use mathlib.Core.Logic.{◌⊎◌, inl, inr}
use Prim.Native.Nat.{ℕ, suc, ◌+◌, ◌-◌, ◌≤◌, ◌<◌}
use native.Mathlib.Omega.{arith}
use Rattle.std.specs.Prelude.{Option, Some, None, Result, Ok, Err}
use lib.Dec.{ltb}
use lib.ListN.{length, take, drop, length-drop, length-append, length-replicate, drop_of_length-le}
use lib.Seq.{drop-drop, take_at, take-add, length-take-le}
use borrow.Author.Tests.{ltb-true, ltb-false, lt-ltb}
use Rattle.laws.specs.Pick.{pick, pick-t}
use Rattle.text.specs.Scan.{LF}
use Rattle.lines.specs.Lines.{Plain, lines_of, begun_of, too_long, asked, lines-whole}
use Rattle.lines.specs.Places.{plain_length, end_of, part_of, plain-taken, plain-within, plain-line, plain-begun, Carries, carry-inside}
use Rattle.lines.specs.Intake.{start_of, pending, comes, overlong, line_to, begun_to, next_of, handed, HandsOver, NextStands, Behind, next-steps, carry-pending}
use Rattle.lines.specs.declared.Intake.{Intake}
use Rattle.lines.specs.declared.Taken.{Taken}
use Rattle.refill.specs.Refills.{Refills, held-is, none-came}
use Rattle.heading.specs.Heading.{Begun, Cut, Heads, Turns, ReadsHeading, Continues}
use Rattle.heading.specs.declared.Found.{Found}
use Rattle.heading.specs.declared.Found.TheVariants as F
use Rattle.heading.specs.declared.Headed.{Headed}

plain-both : (a b : List ℕ) → Plain a → Plain b → Plain (a ++ b)
plain-both [] b p q = q
plain-both (x ∷ xs) b p q = (p.0, plain-both xs b p.1 q)

-- a line that is too long is asked for as an empty one
long-empty : (l : List ℕ) → 4095 < length l → asked l ≡ []
unfolding asked too_long
long-empty l h = pick-t _ _ _ (lt-ltb 4095 (length l) h)

long-begun : 4095 < length (begun_of true)
unfolding begun_of
long-begun = omega (arith, length-replicate {A = ℕ} 4096 0)

-- nothing came before the first read
pub begun-start : (buffer : List ℕ) → Begun [] start_of buffer
unfolding pending
begun-start buffer = record { gone = []; whole = refl; plain = tt; size = inl (refl, refl) }

module _ (i : Intake) (buffer : List ℕ) where
  abbrev held : List ℕ
  held = take i.have buffer

  abbrev rest : List ℕ
  rest = drop i.at held

  abbrev end : ℕ
  end = i.at + plain_length rest

  no_more : {Q : Type 0} (from to : ℕ) → ◌≡◌ {A = Option (ℕ × ℕ)} None (Some (from, to)) → Q
  no_more from to e = let z : ◌≡◌ {A = ℕ} 0 1 = cc in absurd (omega arith)

  -- a line that is handed over stands first of what was pending, before its LF
  pub passed : (t : Taken) (from to : ℕ) → HandsOver i buffer t → t.next ≡ Some (from, to) → (line : List ℕ) × (pending i buffer ≡ line ++ LF ∷ pending t.intake buffer) × Plain line
  unfolding pending next_of end_of line_to pick
  passed t from to e n = go (ltb end (length held)) refl e
    where
      go : (b : Bool) → ltb end (length held) ≡ b → t ≡ pick b (line_to i end) (record { intake = begun_to i end; next = None })
          → (line : List ℕ) × (drop i.at (take i.have buffer) ≡ line ++ LF ∷ drop t.intake.at (take t.intake.have buffer)) × Plain line
      go true p e =
          let h = ltb-true end (length held) p in
          let a : t.intake.at ≡ end + 1 = ap (λ (x : Taken). x.intake.at) e in
          let k : t.intake.have ≡ i.have = ap (λ (x : Taken). x.intake.have) e in
          let next : i.at + suc (plain_length rest) ≡ t.intake.at = omega arith in (
            take (plain_length rest) rest,
            plain-line rest (omega (arith, length-drop i.at held))
                ∙ ap (λ (l : List ℕ). take (plain_length rest) rest ++ LF ∷ l) (drop-drop (suc (plain_length rest)) i.at held ∙ ap (λ (m : ℕ). drop m held) next ∙ ap (λ (m : ℕ). drop t.intake.at (take m buffer)) (sym k)),
            plain-taken rest,
          )
      go false p e = no_more from to (sym (ap (λ (x : Taken). x.next) e) ∙ n)

  abbrev Size : List ℕ → Bool → Type 0
  Size gone long = ((long ≡ false) × (gone ≡ [])) ⊎ ((long ≡ true) × (4095 < length gone))

  -- where none is, the bytes that came have no LF, and they are still known
  pub left : (t : Taken) → HandsOver i buffer t → t.next ≡ None → (came : List ℕ) → Begun came i buffer → Plain came × Begun came t.intake buffer
  unfolding pending next_of end_of line_to begun_to overlong pick
  left t e n came b = go (ltb end (length held)) refl e
    where
      dropped : 4095 < length b.gone ⊎ (4095 < length rest) → 4095 < length came
      dropped (inl k) = omega (arith, ap length b.whole, length-append b.gone rest)
      dropped (inr k) = omega (arith, ap length b.whole, length-append b.gone rest)

      which : (long : Bool) → Size b.gone long → (long || ltb 4095 (end - i.at)) ≡ true → length rest ≡ plain_length rest → 4095 < length b.gone ⊎ (4095 < length rest)
      which long (inl s) o l = inr (omega (arith, ltb-true 4095 (end - i.at) (subst (λ (x : Bool). (x || ltb 4095 (end - i.at)) ≡ true) s.0 o)))
      which long (inr s) o l = inl s.1

      stays : (o : Bool) → (i.long || ltb 4095 (end - i.at)) ≡ o → length held ≤ end → length rest ≡ plain_length rest → t.intake ≡ pick o (record { at = end; have = i.have; long = true }) i → Plain came → Begun came t.intake buffer
      stays true o h l q p =
          let none : drop t.intake.at (take t.intake.have buffer) ≡ [] = ap (λ (j : Intake). drop j.at (take j.have buffer)) q ∙ drop_of_length-le held {i = end} h in
          record { gone = came; whole = sym (append-nil came) ∙ ap (λ (l : List ℕ). came ++ l) (sym none); plain = p; size = inr (ap (λ (j : Intake). j.long) q, dropped (which i.long b.size o l)) }
      stays false o h l q p = subst (λ (j : Intake). Begun came j buffer) (sym q) b

      go : (x : Bool) → ltb end (length held) ≡ x → t ≡ pick x (line_to i end) (record { intake = begun_to i end; next = None }) → Plain came × Begun came t.intake buffer
      go true p e = no_more _ _ (sym n ∙ ap (λ (x : Taken). x.next) e)
      go false p e =
          let h = ltb-false end (length held) p in
          let m = plain-begun rest (omega (arith, length-drop i.at held)) in
          let plain : Plain came = subst Plain (sym b.whole) (plain-both b.gone rest b.plain m) in
          let l : length rest ≡ plain_length rest = omega (arith, length-drop i.at held, plain-within rest) in
          (plain, stays (i.long || ltb 4095 (end - i.at)) refl h l (ap (λ (x : Taken). x.intake) e) plain)

  -- the line stands in the buffer, an empty one where it is too long
  stood : (t : Taken) (from to : ℕ) (line gone : List ℕ) → HandsOver i buffer t → t.next ≡ Some (from, to) → pending i buffer ≡ line ++ LF ∷ pending t.intake buffer → Plain line → Size gone i.long
      → part_of from to buffer ≡ asked (gone ++ line)
  unfolding comes handed begun_of
  stood t from to line gone e n w p s =
      let steps = (next-steps i buffer).comes [] in
      let by : comes i buffer [] ≡ handed buffer t.next ++ comes t.intake buffer [] = subst (λ (x : Taken). comes i buffer [] ≡ handed buffer x.next ++ comes x.intake buffer []) (sym e) steps in
      let ours : comes i buffer [] ≡ part_of from to buffer ∷ comes t.intake buffer [] = by ∙ ap (λ (x : Option (ℕ × ℕ)). handed buffer x ++ comes t.intake buffer []) n in
      let theirs : comes i buffer [] ≡ asked (begun_of i.long ++ line) ∷ lines_of [] (pending t.intake buffer ++ []) =
      ap (λ (l : List ℕ). lines_of (begun_of i.long) (l ++ [])) w ∙ ap (lines_of (begun_of i.long)) (append_assoc line (LF ∷ pending t.intake buffer) []) ∙ lines-whole line (begun_of i.long) (pending t.intake buffer ++ []) p in
      let same : part_of from to buffer ≡ asked (begun_of i.long ++ line) = cc in
      same ∙ alike i.long s
    where
      alike : (long : Bool) → Size gone long → asked (begun_of long ++ line) ≡ asked (gone ++ line)
      alike long (inl x) = ap (λ (b : Bool). asked (begun_of b ++ line)) x.0 ∙ ap (λ (g : List ℕ). asked (g ++ line)) (sym x.1)
      alike long (inr x) =
          ap (λ (b : Bool). asked (begun_of b ++ line)) x.0
          ∙ long-empty (begun_of true ++ line) (omega (arith, length-append (begun_of true) line, long-begun))
          ∙ sym (long-empty (gone ++ line) (omega (arith, x.1, length-append gone line)))

  line-within : (t : Taken) (from to : ℕ) → HandsOver i buffer t → t.next ≡ Some (from, to) → (from ≤ to) × (to < length buffer)
  line-within t from to e n =
      let s : NextStands i buffer t.intake t.next = subst (λ (x : Taken). NextStands i buffer x.intake x.next) (sym e) (next-steps i buffer).stands in
      let b : Behind i buffer from to t.intake = subst (λ (x : Option (ℕ × ℕ)). NextStands i buffer t.intake x) n s in
      (b.order, b.inside)

  cut_of : (t : Taken) (from to : ℕ) → HandsOver i buffer t → t.next ≡ Some (from, to) → (came : List ℕ) → Begun came i buffer → Cut came from to t.intake buffer
  cut_of t from to e n came b =
      let w = line-within t from to e n in
      let p = passed t from to e n in
      record {
        order = w.0;
        inside = w.1;
        line = b.gone ++ p.0;
        whole = b.whole ∙ ap (λ (l : List ℕ). b.gone ++ l) p.1 ∙ sym (append_assoc b.gone p.0 (LF ∷ pending t.intake buffer));
        plain = plain-both b.gone p.0 b.plain p.2;
        stands = stood t from to p.0 b.gone e n p.1 p.2 b.size;
      }

  -- a turn that finds the line reads nothing
  pub turned-line : (t : Taken) (from to : ℕ) → HandsOver i buffer t → t.next ≡ Some (from, to) → Turns i buffer buffer (record { found = F.Line from to; intake = t.intake })
  turned-line t from to e n = record {
    brought = [];
    heads = λ came b. subst (λ (l : List ℕ). Cut l from to t.intake buffer) (sym (append-nil came)) (cut_of t from to e n came b);
  }

  -- one that does not reads on
  pub turned_more : (t : Taken) (new : List ℕ) (r : Result Intake Intake) (j : Intake) → HandsOver i buffer t → t.next ≡ None → Refills t.intake buffer new r → r ≡ Ok j → Turns i buffer new (record { found = F.More; intake = j })
  turned_more t new r j e n f h = subst (λ (k : Intake). Turns i buffer new (record { found = F.More; intake = k })) (held-is f h) (record {
    brought = f.got;
    heads = λ came b.
        let k = (left t e n came b).1 in
        record {
          gone = k.gone;
          whole =
              ap (λ (l : List ℕ). l ++ f.got) k.whole
              ∙ append_assoc k.gone (pending t.intake buffer) f.got
              ∙ ap (λ (l : List ℕ). k.gone ++ l) (sym f.brought);
          plain = k.plain;
          size = subst (λ (x : Bool). Size k.gone x) (sym f.long) k.size;
        };
  })

  -- where nothing came there is no line
  pub turned_none : (t : Taken) (new : List ℕ) (r : Result Intake Intake) (k j : Intake) → HandsOver i buffer t → t.next ≡ None → Refills t.intake buffer new r → r ≡ Err k → Turns i buffer new (record { found = F.Nothing; intake = j })
  turned_none t new r k j e n f m = record {
    brought = f.got;
    heads = λ came b. plain-both came f.got (left t e n came b).0 (subst Plain (sym (none-came f m)) tt);
  }

-- what was pending stands at the start, and behind it what was read
pub continued : (h : Headed) (old mid rest : List ℕ) (held n : ℕ) → Carries h.intake.at h.intake.have old mid held → held + n ≤ length (take held mid ++ rest)
    → Continues h old (take held mid ++ rest) (held + n)
continued h old mid rest held n p w =
    let new = take held mid ++ rest in
    let i = carry-inside p in
    record {
      brought = take n (drop held new);
      whole =
          take-add held n new
          ∙ ap (λ (l : List ℕ). l ++ take n (drop held new)) (take_at (take held mid) rest held (length-take-le held mid (omega (arith, i.0, i.1))) ∙ carry-pending h.intake p);
      within = w;
    }

-- the first turn, and one more
pub headed-first : (old new : List ℕ) (i : Intake) (r : Headed) → i ≡ start_of → Turns i old new r → ReadsHeading new r
headed-first old new i r s t = record { came = [] ++ t.brought; heads = t.heads [] (subst (λ (j : Intake). Begun [] j old) (sym s) (begun-start old)) }

pub headed-on : (old new : List ℕ) (h r : Headed) → ReadsHeading old h → h.found ≡ F.More → Turns h.intake old new r → ReadsHeading new r
headed-on old new h r k e t = record { came = k.came ++ t.brought; heads = t.heads k.came (subst (λ (f : Found). Heads k.came f h.intake old) e k.heads) }
