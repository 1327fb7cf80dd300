-- What the writer wrote the reader reads back: the body with its check byte, at the frame's last byte, whatever bytes follow, and behind any bytes that hold no finished body and do not end in an FF inside one. Assumes nothing.
use Rattle.std.specs.Prelude.{◌≡◌, refl, Bool, true, false, List, [], ◌∷◌, ◌++◌, ℕ, suc, ◌+◌, ◌-◌, ◌<◌, ◌≤◌, eqb, length}
use Rattle.std.proofs.Common.{ap, ap₂, ◌∙◌, sym, append_assoc, append-nil, zero-add, add-zero, add_assoc, add-one, arith, length-append, lt-ltb, le-ltb, ne_eqb, eqb-true}
use Rattle.laws.specs.Pick.{pick, pick-f, pick-map}
use Rattle.paper.specs.Answer.{done}
use Rattle.frame.specs.Check.{check}
use Rattle.frame.specs.CheckLaws.{check-zero}
use Rattle.frame.specs.Frame.{sent_byte, sent, frame, extended, fewest, framable}
use Rattle.frame.specs.FrameLaws.{sent-plain, framable-is, fewest-two}
use Rattle.frame.specs.Read.{Reading, seek, lead, body, mark, ended, grown, step, run, read_all, too_short, bad_body, judged, answer_of, read_of}
use Rattle.frame.specs.ReadLaws.{run-append, run-ended}

-- reading has finished no body and has not just met an FF inside one
unfoldable pub Open : Reading → Type 0
Open seek = Unit {0}
Open (lead p) = Unit {0}
Open (body p l) = Unit {0}
Open (mark p l q) = ⊥
Open (ended l k) = ⊥

-- from there an FF and a byte that is neither FF nor FE begin a body
begins : (r : Reading) (i x : ℕ) (ys : List ℕ) → Open r → (x ≡ 0xFF → ⊥) → (x ≡ 0xFE → ⊥)
    → run r i (0xFF ∷ x ∷ ys) ≡ run (body i (x ∷ [])) (suc (suc i)) ys
unfolding Open run step pick
begins seek i x ys o f g = simp (ne_eqb x 0xFF f, ne_eqb x 0xFE g)
begins (lead p) i x ys o f g = simp (ne_eqb x 0xFF f, ne_eqb x 0xFE g)
begins (body p l) i x ys o f g = simp (ne_eqb x 0xFF f, ne_eqb x 0xFE g)
begins (mark p l q) i x ys o f g = absurd o
begins (ended l k) i x ys o f g = absurd o

-- a body byte, as it is sent, is read as itself
byte-run : (p : ℕ) (l : List ℕ) (i x : ℕ) (ys : List ℕ) → length l < 255
    → run (body p l) i (sent_byte x ++ ys) ≡ run (body p (l ++ x ∷ [])) (i + length (sent_byte x)) ys
unfolding sent_byte run step grown pick
byte-run p l i x ys h = go (eqb x 0xFF) refl
  where
    go : (t : Bool) → eqb x 0xFF ≡ t → run (body p l) i (sent_byte x ++ ys) ≡ run (body p (l ++ x ∷ [])) (i + length (sent_byte x)) ys
    go true e = let q : x ≡ 0xFF = eqb-true x 0xFF e in
        let two : i + 2 ≡ suc (suc i) = omega arith in
        rw (e, lt-ltb _ _ h, q, two)
    go false e = simp (e, lt-ltb _ _ h, add-one)

-- so is a run of them
sent-run : (p : ℕ) (l : List ℕ) (i : ℕ) (xs ys : List ℕ) → length l + length xs ≤ 255
    → run (body p l) i (sent xs ++ ys) ≡ run (body p (l ++ xs)) (i + length (sent xs)) ys
unfolding sent
sent-run p l i [] ys h = rw (append-nil, add-zero)
sent-run p l i (x ∷ xs) ys h =
    let one : length (l ++ x ∷ []) ≡ length l + 1 = length-append l (x ∷ []) in
    rw (append_assoc (sent_byte x) (sent xs) ys)
    (byte-run p l i x (sent xs ++ ys) (omega arith)
    ∙ sent-run p (l ++ x ∷ []) (i + length (sent_byte x)) xs ys (omega arith)
    ∙ ap₂ (λ (m : List ℕ) (n : ℕ). run (body p m) n ys) (append_assoc l (x ∷ []) xs)
    (add_assoc i (length (sent_byte x)) (length (sent xs)) ∙ ap (λ (n : ℕ). i + n) (sym (length-append (sent_byte x) (sent xs)))))

-- the two closing FF finish the body, whatever follows
closes : (p : ℕ) (l : List ℕ) (i : ℕ) (ys : List ℕ) → run (body p l) i (0xFF ∷ 0xFF ∷ ys) ≡ ended l (suc i)
unfolding run step pick
closes p l i ys = run-ended l (suc i) (suc (suc i)) ys

-- a body that begins with neither FF nor FE and has at most 255 bytes, its check byte among them, is read back
sent-read : (r : Reading) (i x : ℕ) (xs ys : List ℕ) → Open r → (x ≡ 0xFF → ⊥) → (x ≡ 0xFE → ⊥) → length (x ∷ xs) ≤ 255
    → run r i (0xFF ∷ (sent (x ∷ xs) ++ 0xFF ∷ 0xFF ∷ ys)) ≡ ended (x ∷ xs) (i + length (sent (x ∷ xs)) + 2)
unfolding sent
sent-read r i x xs ys o f g h =
    let k : suc (suc (suc i) + length (sent xs)) ≡ i + suc (length (sent xs)) + 2 = omega arith in
    rw (sent-plain x f)
    (begins r i x (sent xs ++ 0xFF ∷ 0xFF ∷ ys) o f g
    ∙ sent-run i (x ∷ []) (suc (suc i)) xs (0xFF ∷ 0xFF ∷ ys) (omega arith)
    ∙ closes i (x ∷ xs) (suc (suc i) + length (sent xs)) ys
    ∙ ap (ended (x ∷ xs)) k)

-- reading from place i, of a frame and what follows
frame-read : (r : Reading) (i : ℕ) (b after : List ℕ) → Open r → framable b ≡ true
    → run r i (frame b ++ after) ≡ ended (b ++ check b ∷ []) (i + length (frame b) - 1)
unfolding frame
frame-read r i [] after o e = let f = framable-is [] e in absurd (omega (arith, fewest-two [], f.enough))
frame-read r i (x ∷ xs) after o e =
    let f = framable-is (x ∷ xs) e in
    let c = check (x ∷ xs) in
    let s = sent (x ∷ (xs ++ c ∷ [])) in
    let all : length (xs ++ c ∷ []) ≡ length xs + 1 = length-append xs (c ∷ []) in
    let two : length (s ++ 0xFF ∷ 0xFF ∷ []) ≡ length s + 2 = length-append s (0xFF ∷ 0xFF ∷ []) in
    let k : i + length s + 2 ≡ i + length (frame (x ∷ xs)) - 1 = omega arith in
    rw (append_assoc (sent (x ∷ (xs ++ c ∷ []))) (0xFF ∷ 0xFF ∷ []) after)
    (sent-read r i x (xs ++ c ∷ []) after o f.not-FF f.not-FE (omega (arith, f.most)) ∙ ap (ended (x ∷ (xs ++ c ∷ []))) k)

-- a framable body with its check byte is no bad one
whole : (b : List ℕ) → framable b ≡ true → bad_body (b ++ check b ∷ []) ≡ false
unfolding bad_body too_short fewest extended
whole [] e = let f = framable-is [] e in absurd (omega (arith, fewest-two [], f.enough))
whole (x ∷ xs) e =
    let f = framable-is (x ∷ xs) e in
    let l = x ∷ (xs ++ check (x ∷ xs) ∷ []) in
    let long : pick (eqb x 0) 6 3 ≤ length l =
    omega (arith, length-append xs (check (x ∷ xs) ∷ []), pick-map suc (eqb x 0) 5 2, f.enough) in
    rw (check-zero (x ∷ xs), le-ltb (length l) (pick (eqb x 0) 6 3) long)

-- the reader's answer where the body that was finished is not bad
answers : (n : ℕ) (r : Reading) (l : List ℕ) (k : ℕ) → r ≡ ended l k → bad_body l ≡ false → answer_of n r ≡ done (record { place = k; bytes = l })
unfolding answer_of judged
answers n r l k e g = rw (e, pick-f (bad_body l) _ _ g)

pub round_trip : (before b after : List ℕ) → Open (read_all before) → framable b ≡ true
    → read_of (before ++ (frame b ++ after)) ≡ done (record { place = length before + length (frame b) - 1; bytes = b ++ check b ∷ [] })
unfolding read_of read_all
round_trip before b after o e =
    answers _ _ _ _
    (run-append seek 0 before (frame b ++ after)
    ∙ ap (λ (i : ℕ). run (run seek 0 before) i (frame b ++ after)) (zero-add (length before))
    ∙ frame-read (run seek 0 before) (length before) b after o e)
    (whole b e)

-- the plain case: nothing stands before the frame
pub round-trip-first : (b after : List ℕ) → framable b ≡ true
    → read_of (frame b ++ after) ≡ done (record { place = length (frame b) - 1; bytes = b ++ check b ∷ [] })
unfolding read_all run Open
round-trip-first b after e = round_trip [] b after tt e ∙ rw (zero-add (length (frame b)))
