use Rattle.std.proofs.Common.{◌≡◌, refl, sym, false, not, ℕ, ◌⊎◌, inl, inr, eqb, rules, eq-eqb, ne_eqb}
use Rattle.conversion.specs.Bytes.{is_other}
use Rattle.conversion.proofs.is_other.Goals as goal

at-end : (t b : ℕ) → t ≡ 5 → b ≡ 10 → false ≡ is_other t b
unfolding is_other
at-end t b e f = rw (eq-eqb t 5 e, eq-eqb b 10 f) refl

digit : (t b : ℕ) → t ≡ 5 → (b ≡ 10 → ⊥) → not (eqb b 48) ≡ is_other t b
unfolding is_other
digit t b e f = rw (eq-eqb t 5 e, ne_eqb b 10 f) refl

outside : (t b : ℕ) → (t ≡ 5 → ⊥) → false ≡ is_other t b
unfolding is_other
outside t b e = rw (ne_eqb t 5 e) refl

none : (t b : ℕ) → (t ≡ 5 × b ≡ 10) ⊎ (t ≡ 5 → ⊥) → is_other t b ≡ false
none t b (inl h) = sym (at-end t b h.0 h.1)
none t b (inr h) = sym (outside t b h)

pub returns-then-b-ne-LF : goal.returns-then-b-ne-LF
returns-then-b-ne-LF c = let h = c.if-b-ne-LF.true in digit _ _ h.0 h.1

pub returns-else-b-ne-LF : goal.returns-else-b-ne-LF
returns-else-b-ne-LF c = rw (none c.args.tabs c.args.b c.if-b-ne-LF.either) (search rules)
