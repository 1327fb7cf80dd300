-- Bodies in arrays: what the reader found, and what building handed over. Assumes nothing.
use mathlib.Core.Path.{◌≡◌, refl, sym, ap, subst, ◌∙◌}
use mathlib.Core.List.{List, [], ◌++◌}
use Prim.Native.Nat.{ℕ, ◌-◌, ◌≤◌}
use native.Mathlib.Omega.{arith}
use lib.ListN.{length, take, replicate, length-append}
use lib.Seq.{take_at}
use Rattle.laws.specs.Pick.{pick-f}
use Rattle.paper.specs.Answer.{Answer, done, refused, fault, told, on_done, Fills}
use Rattle.paper.specs.AnswerLaws.{passed, refused-done, fault-done, done_refused, told-refused, fills-refused}
use Rattle.frame.specs.Frame.{write_of}
use Rattle.frame.specs.Read.{Finished, read_of}
use Rattle.frame.specs.ReadLaws.{done-whole}
use Rattle.frame.specs.Says.{says_found, says_wrote, handed}
use Rattle.frame.specs.declared.Finished as read
use Rattle.frame.specs.declared.ReadError.{ReadError}
use Rattle.frame.specs.declared.ReadError.TheVariants as F
use Rattle.frame.specs.declared.WriteError.{WriteError}
use Rattle.frame.specs.declared.WriteError.TheVariants as W
use Rattle.paper.specs.Numbers.{R14}
use Rattle.frame.specs.Frame.{framable}
use Rattle.frame.specs.FrameLaws.{framable-is}
use Rattle.message.specs.Message.{parts_of, split_of, build_of, framable_of, body_of, proper, improper}
use Rattle.message.specs.declared.SplitError.{SplitError}
use Rattle.message.specs.declared.SplitError.TheVariants as P
use Rattle.message.specs.Says as message
use Rattle.message.specs.declared.Body.{Body}
use Rattle.message.specs.declared.BuildError.{BuildError}
use Rattle.message.specs.declared.BuildError.TheVariants as B
use Rattle.message.specs.declared.Form.{Form}
use Rattle.message.specs.declared.Parts.{Parts}
use Rattle.asking.specs.Asking.{heard_of, framed_of}
use Rattle.asking.specs.Says.{says_error, says_parts, says_sent, read_as, built_as, wrote_as}
use Rattle.std.specs.Prelude.{Result, Ok, Err}

-- ---- bytes in an array

-- the bytes are the first n of the array
pub record Front (bytes array : List ℕ) (n : ℕ) : Type 0 where
  pub fits : n ≤ length array
  pub is : take n array ≡ bytes

front : (bytes : List ℕ) (m : ℕ) {array : List ℕ} {n : ℕ} → array ≡ bytes ++ replicate m 0 → n ≡ length bytes → Front bytes array n
front bytes m {array} {n} e l =
    record {
      fits = omega (arith, simp length-append at (ap length e));
      is = rw e (take_at bytes _ n (sym l));
    }

-- what an answer that tells a value was
told-done : {X Y : Type 0} (f : X → Y) (a : Answer X) (y : Y) → done y ≡ told f a → {Q : Type 0} → ((x : X) → a ≡ done x → y ≡ f x → Q) → Q
unfolding told
told-done f (done x) y e go = go x refl (cc)
told-done f (refused n vs) y e go = done_refused e
told-done f (fault n vs) y e go = fault-done (sym e)

-- ---- what the reader found

-- the reader's body stands in its array
pub record Finds (s array : List ℕ) (place len : ℕ) : Type 0 where
  pub small : len ≤ 255
  pub read : read_of s ≡ done (record { place = place; bytes = take len array })
  pub splits : split_of (take len array) ≡ done (parts_of (take len array))

-- a body that the reader hands over is long enough to be split
whole-splits : (s : List ℕ) (f : Finished) → read_of s ≡ done f → split_of f.bytes ≡ done (parts_of f.bytes)
unfolding split_of
whole-splits s f e = pick-f _ _ _ (done-whole s f e).long

pub found-body : (s : List ℕ) (f : read.Finished) → done f ≡ told handed (read_of s) → Finds s f.body f.place f.len
found-body s f e =
    told-done handed (read_of s) f e
    (λ g k t.
    let held : f.body ≡ g.bytes ++ replicate (255 - length g.bytes) 0 = ap (λ (x : read.Finished). x.body) t in
    let a : f.place ≡ g.place = ap (λ (x : read.Finished). x.place) t in
    let b : f.len ≡ length g.bytes = ap (λ (x : read.Finished). x.len) t in
    let stands = front g.bytes (255 - length g.bytes) held b in
    record { small = omega (arith, (done-whole s g k).sized.most); read = rw (stands.is, a) k; splits = rw stands.is (whole-splits s g k) })

-- what was found splits, for it is never too short
pub always-parts : {s array : List ℕ} {place len : ℕ} → Finds s array place len → (e : SplitError) → message.says_split (Err e) ≡ split_of (take len array) → {Q : Type 0} → Q
always-parts finds P.R6 says = refused-done (says ∙ finds.splits)

-- so its parts are heard, and R6 never
pub heard-parts : {s array : List ℕ} {place len : ℕ} → Finds s array place len → (p : Result Parts SplitError) → message.says_split p ≡ split_of (take len array) → says_parts place p ≡ heard_of s
unfolding heard_of told
heard-parts {s} {array} {place} {len} finds (Ok p) says =
    let same = says ∙ finds.splits in
    let q : p ≡ parts_of (take len array) = cc in
    rw (finds.read, q)
heard-parts finds (Err e) says = always-parts finds e says

-- what the reader refuses
pub heard-unread : (s : List ℕ) {n : ℕ} {vs : List ℕ} → refused n vs ≡ told handed (read_of s) → refused n vs ≡ heard_of s
unfolding heard_of told
heard-unread s {n} {vs} e = rw (told-refused handed (read_of s) n vs (sym e))

-- as an error of the request it is what is heard
pub heard-refused : (s : List ℕ) (e : ReadError) → says_found (Err e) ≡ told handed (read_of s) → says_error (read_as e) ≡ heard_of s
heard-refused s (F.R9 place) h = heard-unread s h
heard-refused s (F.R6 place) h = heard-unread s h

-- ---- what building handed over

-- the body that was built stands in its array
pub record BodyStands (form : Form) (op : ℕ) (values array : List ℕ) (n : ℕ) : Type 0 where
  pub body : List ℕ
  pub built : build_of form op values ≡ done body
  pub small : n ≤ 254
  pub front : Front body array n

-- a body that is built can be framed
built-small : (form : Form) (op : ℕ) (values body : List ℕ) → build_of form op values ≡ done body → length body ≤ 254
unfolding build_of framable_of
built-small form op values body e =
    let p = passed (proper form) _ improper [] body e in
    let f = passed (framable (body_of form op values)) (done (body_of form op values)) R14 [] body p.1 in
    let same : body_of form op values ≡ body = cc f.1 in
    subst (λ (b : List ℕ). length b ≤ 254) same (framable-is (body_of form op values) f.0).most

module _ (form : Form) (op : ℕ) (values : List ℕ) where
  unbuilt : {n : ℕ} → refused n [] ≡ told message.handed (build_of form op values) → (old : List ℕ) → Fills (refused n []) (framed_of form op values (length old)) old old
  unfolding on_done
  unbuilt {n} e old =
      fills-refused (ap (λ (a : Answer (List ℕ)). on_done a (λ body. write_of body (length old))) (told-refused message.handed (build_of form op values) n [] (sym e))) old

  -- what building refuses
  pub not-built : (e : BuildError) → message.says_built (Err e) ≡ told message.handed (build_of form op values) → (old : List ℕ) → Fills (says_sent (Err (built_as e))) (framed_of form op values (length old)) old old
  not-built B.Improper h old = unbuilt h old
  not-built B.R14 h old = unbuilt h old

  pub built-stands : (b : Body) → done b ≡ told message.handed (build_of form op values) → BodyStands form op values b.bytes b.len
  built-stands b e =
      told-done message.handed (build_of form op values) b e
      (λ body k t. record {
        body = body;
        built = k;
        small = rw (ap (λ (x : Body). x.len) t) (built-small form op values body k);
        front = front body (254 - length body) (ap (λ (x : Body). x.bytes) t) (ap (λ (x : Body). x.len) t);
      })

-- what was built is framed
pub built-replies : {form : Form} {op : ℕ} {values array : List ℕ} {n : ℕ} (s : BodyStands form op values array n) (room : ℕ) → write_of (take n array) room ≡ framed_of form op values room
unfolding on_done
built-replies s room = ap (λ (b : List ℕ). write_of b room) s.front.is ∙ sym (ap (λ (a : Answer (List ℕ)). on_done a (λ body. write_of body room)) s.built)

-- what the writer refuses
pub wrote-says : (e : WriteError) → says_wrote (Err e) ≡ says_sent (Err (wrote_as e))
wrote-says W.R14 = refl
wrote-says W.R8 = refl
