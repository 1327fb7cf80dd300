-- What the answers of the field's writer and reader say, in the paper's words. Assumes nothing.
use Rattle.std.specs.Prelude.{◌≡◌, refl, [], ℕ, ℤ, nat_abs, Result, Ok, Err}
use Rattle.paper.specs.Answer.{Answer, done, refused, same}
use Rattle.paper.specs.Numbers.{R16}
use Rattle.field.specs.Field.{write_of, read_of, echo_of}
use Rattle.field.specs.declared.Field.{Field}
use Rattle.field.specs.declared.Weight.{Weight}
use Rattle.field.specs.declared.FieldError.{FieldError}
use Rattle.field.specs.declared.FieldError.TheVariants as E

-- what is written or read, or R16
abbrev pub says_field : {X : Type 0} → Result X FieldError → Answer X
says_field (Ok x) = done x
says_field (Err E.R16) = refused R16 []

-- each error is R16
pub says-err : {X : Type 0} (e : FieldError) → says_field {X = X} (Err e) ≡ refused R16 []
says-err E.R16 = refl

abbrev pub says_written : Result Field FieldError → Answer Field
says_written = says_field

abbrev pub says_got : Result Weight FieldError → Answer Weight
says_got = says_field

-- two answers that say the same are equal
pub field-one : {X : Type 0} (a b : Result X FieldError) → says_field a ≡ says_field b → a ≡ b
field-one (Ok x) (Ok y) e = cc
field-one (Ok x) (Err E.R16) e = cc
field-one (Err E.R16) (Ok y) e = cc
field-one (Err E.R16) (Err E.R16) e = refl

pub written_one : (a b : Result Field FieldError) → says_written a ≡ says_written b → a ≡ b
written_one a b e = field-one a b e

pub got-one : (a b : Result Weight FieldError) → says_got a ≡ says_got b → a ≡ b
got-one a b e = field-one a b e

-- what each call's answer has to meet
abbrev pub Sizes : ℤ → ℕ → Type 0
Sizes v r = r ≡ nat_abs v

abbrev pub WritesWeight : Weight → Result Field FieldError → Type 0
WritesWeight v r = says_written r ≡ write_of v

abbrev pub ReadsWeight : Field → Result Weight FieldError → Type 0
ReadsWeight f r = says_got r ≡ read_of f

abbrev pub Echoes : Weight → Result Weight FieldError → Type 0
Echoes v r = says_got r ≡ echo_of v

-- two answers that both meet a call's contract are equal
pub size-determined : (v : ℤ) (a b : ℕ) → Sizes v a → Sizes v b → a ≡ b
size-determined v a b p q = same p q

pub write-determined : (v : Weight) (a b : Result Field FieldError) → WritesWeight v a → WritesWeight v b → a ≡ b
write-determined v a b p q = written_one a b (same p q)

pub read-determined : (f : Field) (a b : Result Weight FieldError) → ReadsWeight f a → ReadsWeight f b → a ≡ b
read-determined f a b p q = got-one a b (same p q)

pub echo-determined : (v : Weight) (a b : Result Weight FieldError) → Echoes v a → Echoes v b → a ≡ b
echo-determined v a b p q = got-one a b (same p q)
