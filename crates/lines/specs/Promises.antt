-- What each public function of this crate promises, and that no second outcome keeps the promise; of the lines
-- written the promise is `Written` (of another room `WrittenIn`), or `Put` of a part of one (in Replies). Assumes nothing.
use Rattle.std.specs.Prelude.{ℕ, List, ◌≡◌}
use Rattle.kinds.specs.Outcome.{one, both}
use Rattle.lines.specs.declared.reading.Line.{Line}
use Rattle.lines.specs.declared.reading.Reader.{Reader}
use Rattle.lines.specs.Replies.{Put, Written, WrittenIn}
use Rattle.lines.specs.Reading.{fresh, pushed, pushed_in, last_in, finished, said, said_in}

abbrev pub StartsFresh : Reader → Type 0
StartsFresh r = r ≡ fresh

pub starts_fresh_only : (r q : Reader) → StartsFresh r → StartsFresh q → r ≡ q
starts_fresh_only r q = one

abbrev pub Pushes : Reader → List ℕ → ℕ → Reader → List ℕ → Type 0
Pushes r m b q n = (q ≡ pushed r b) × (n ≡ pushed_in r b m)

pub pushes_only : (r : Reader) (m : List ℕ) (b : ℕ) (q p : Reader) (n o : List ℕ) → Pushes r m b q n → Pushes r m b p o → (q ≡ p) × (n ≡ o)
pushes_only r m b q p n o = both

abbrev pub Finishes : Reader → List ℕ → Line → List ℕ → Type 0
Finishes r m q n = (q ≡ finished r m) × (n ≡ last_in r m)

pub finishes_only : (r : Reader) (m : List ℕ) (q p : Line) (n o : List ℕ) → Finishes r m q n → Finishes r m p o → (q ≡ p) × (n ≡ o)
finishes_only r m q p n o = both

abbrev pub ReadsLine : List ℕ → List ℕ → Line → List ℕ → Type 0
ReadsLine line m r n = (r ≡ said m line) × (n ≡ said_in m line)

pub reads_line_only : (line m : List ℕ) (r q : Line) (n o : List ℕ) → ReadsLine line m r n → ReadsLine line m q o → (r ≡ q) × (n ≡ o)
reads_line_only line m r q n o = both

pub written_only : (l line : List ℕ) (r q : ℕ) (m n : List ℕ) → Written l line r m → Written l line q n → (r ≡ q) × (m ≡ n)
written_only l line r q m n a b = (one a.sized b.sized, one a.holds b.holds)

pub written_in_only : (room : ℕ) (l line : List ℕ) (r q : ℕ) (m n : List ℕ) → WrittenIn room l line r m → WrittenIn room l line q n → (r ≡ q) × (m ≡ n)
written_in_only room l line r q m n a b = (one a.sized b.sized, one a.holds b.holds)

pub put_only : (l : List ℕ) (at : ℕ) (t : List ℕ) (r q : ℕ) (m n : List ℕ) → Put l at t r m → Put l at t q n → (r ≡ q) × (m ≡ n)
put_only l at t r q m n a b = (one a.ends b.ends, one a.holds b.holds)
