-- What each call's result has to meet, and that it fits one result. Assumes nothing.
use Rattle.std.specs.Prelude.{◌≡◌, List, ℕ, ℤ, take}
use Rattle.paper.specs.Answer.{same}
use Rattle.window.specs.declared.Window.{Window}
use Rattle.window.specs.Mean.{mean_of}
use Rattle.window.specs.Window.{held_of, empty_window, push_of}

abbrev pub IsEmpty : Window → Type 0
IsEmpty r = r ≡ empty_window

abbrev pub Pushes : Window → ℤ → Window → Type 0
Pushes w x r = r ≡ push_of w x

abbrev pub Means : List ℤ → ℕ → ℕ → ℤ → Type 0
Means s held n r = r ≡ mean_of (take n (held_of s held))

-- two results that meet a call's contract are equal
pub new-determined : {r s : Window} → IsEmpty r → IsEmpty s → r ≡ s
new-determined p q = same p q

pub push-determined : (w : Window) (x : ℤ) {r s : Window} → Pushes w x r → Pushes w x s → r ≡ s
push-determined w x p q = same p q

pub mean-determined : (l : List ℤ) (held n : ℕ) {r s : ℤ} → Means l held n r → Means l held n s → r ≡ s
mean-determined l held n p q = same p q
