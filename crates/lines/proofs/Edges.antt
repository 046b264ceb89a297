-- Lines at the edges, each computed: what a reader of the grammar may want to see. And a number that is written is the
-- number that is read, with no zero in front. Assumes nothing.
use Prim.Native.Nat.{ℕ, zero, suc, ◌+◌, ◌/◌, ◌%◌, ◌^◌, ◌≤◌, ◌<◌}
use mathlib.Core.Path.{◌≡◌, refl, ◌∙◌}
use mathlib.Core.List.{List, [], ◌∷◌, ◌++◌, foldl, foldl-append}
use mathlib.Core.Bool.{Bool, true, false, cond}
use native.Mathlib.Omega.{arith}
use native.Mathlib.Nat.{pow-suc}
use borrow.Author.Tests.{ltb-true, ltb-false, le-leb}
use lib.Dec.{ltb}
use lib.ListN.{length, get_or, take, replicate, length-append}
use Rattle.lines.specs.declared.reading.Call.{Call}
use Rattle.lines.specs.declared.reading.Call.TheVariants.{Unreadable, Append, Rollback, Start, Stop, Connect, Disconnect, Master, Sync, Work, Import, Owner, Fresh}
use Rattle.lines.specs.Text.{text}
use Rattle.lines.specs.Decimal.{is_digit, spelled, decimal}
use Rattle.machine.specs.Import.{adds, undoes}
use Rattle.lines.specs.Grammar.{all_digits, tenfold, pair, flat, Number}
use Rattle.lines.specs.Reading.{size, letter_at, like, seek_in, two_bytes, pushed, call_of, said, said_in}
use Rattle.lines.specs.Handed.{padded, entry_bytes}
use Rattle.lines.proofs.Classes.{and_left, and_right}

-- ---- readable, and unreadable
abbrev room : List ℕ
room = replicate 20 0

asks : List ℕ → Call
asks l = (said room l).call

-- an append's bytes
gives : List ℕ → List ℕ
gives l = take (said room l).length (said_in room l)

edges :
    (asks (text "call=start") ≡ Start) × (asks (text "call=stop") ≡ Stop) × (asks (text "call=connect node=1") ≡ Connect 1)
    × (asks (text "call=disconnect node=8") ≡ Disconnect 8) × (asks (text "call=master node=0") ≡ Master 0) × (asks (text "call=sync node=9") ≡ Sync 9)
    × (asks (text "call=rollback number=0") ≡ Rollback 0) × (asks (text "call=work node=1 job=2 number=3 outcome=4 cut=5") ≡ Work 1 2 3 4 5)
    × (asks (text "call=append pairs=") ≡ Append) × (gives (text "call=append pairs=") ≡ [])
    × (gives (text "call=append pairs=3:7") ≡ 3 ∷ 0 ∷ 7 ∷ 0 ∷ []) × (gives
    (text "call=append pairs=03:007,31:65535") ≡ 3 ∷ 0 ∷ 7 ∷ 0 ∷ 31 ∷ 0 ∷ 255 ∷ 255 ∷ [])
    × (length (gives (text "call=append pairs=1:1,2:2,3:3,4:4,5:5,6:6,7:7")) ≡ 20)
    × (asks (text "call=connect node=01") ≡ Connect 1) × (asks (text "call=connect node=00000000000000000065535") ≡ Connect 65535)
    × (asks (text "call=connect node=65536") ≡ Unreadable) × (asks (text "call=connect node=") ≡ Unreadable) ×
    (asks (text "call=connect node=+1") ≡ Unreadable)
    × (asks (text "call=connect node=0x1") ≡ Unreadable) × (asks (text "call=connect node=1 ") ≡ Unreadable) ×
    (asks (text " call=connect node=1") ≡ Unreadable)
    × (asks (text "call=connect  node=1") ≡ Unreadable) × (asks (text "call=connect\tnode=1") ≡ Unreadable) ×
    (asks (text "call=connect node=1\r") ≡ Unreadable)
    × (asks (text "Call=start") ≡ Unreadable) × (asks [] ≡ Unreadable) × (asks (text "call=append") ≡ Unreadable) ×
    (asks (text "call=append pairs=1:2,") ≡ Unreadable)
    × (asks (text "call=append pairs=1") ≡ Unreadable) × (asks (text "call=append pairs=1:2:3") ≡ Unreadable) ×
    (asks (text "call=append pairs=:1") ≡ Unreadable)
    × (asks (text "call=work job=1 node=1 number=1 outcome=0 cut=0") ≡ Unreadable) × (asks (text "call=work node=1 job=1 number=1 outcome=0") ≡ Unreadable)
unfolding asks gives size letter_at like seek_in pushed call_of
edges = (
  refl,
  refl,
  refl,
  refl,
  refl,
  refl,
  refl,
  refl,
  refl,
  refl,
  refl,
  refl,
  refl,
  refl,
  refl,
  refl,
  refl,
  refl,
  refl,
  refl,
  refl,
  refl,
  refl,
  refl,
  refl,
  refl,
  refl,
  refl,
  refl,
  refl,
  refl,
  refl,
  refl,
)

-- ---- entries (order 6)
-- an import's bytes, in a room of 80
enters : List ℕ → List ℕ
enters l = take (said (replicate 80 9) l).length (said_in (replicate 80 9) l)

entries :
    (asks (text "call=import entries=") ≡ Import) × (enters (text "call=import entries=") ≡ [])
    × (enters (text "call=import entries=3:7,4:1/3:9/2") ≡ entry_bytes (adds (pair 3 7 ∷ pair 4 1 ∷ []) ∷ adds (pair 3 9 ∷ []) ∷ undoes 2 ∷ []))
    × (enters (text "call=import entries=/") ≡ entry_bytes (adds [] ∷ adds [] ∷ []))
    × (enters (text "call=import entries=07//65535") ≡ entry_bytes (undoes 7 ∷ adds [] ∷ undoes 65535 ∷ []))
    × (enters (text "call=import entries=1:1,2:2,3:3,4:4,5:5,6:6/1") ≡ 1 ∷ 0 ∷ 5 ∷ 0 ∷ 1 ∷ 0 ∷ 1 ∷ 0 ∷ 2 ∷ 0 ∷ 2 ∷ 0 ∷ 3 ∷ 0 ∷ 3 ∷ 0 ∷ 4 ∷ 0 ∷ 4 ∷ 0 ∷ entry_bytes (undoes 1 ∷ []))
    × (asks (text "call=import entries=1:") ≡ Unreadable) × (asks (text "call=import entries=1:2,") ≡ Unreadable)
    × (asks (text "call=import entries=1:2,3") ≡ Unreadable) × (asks (text "call=import entries=1:2,3/4") ≡ Unreadable)
    × (asks (text "call=import entries=1,2") ≡ Unreadable) × (asks (text "call=import entries=1:/2") ≡ Unreadable)
    × (asks (text "call=import entries=1:2:3") ≡ Unreadable) × (asks (text "call=import entries=65536") ≡ Unreadable)
    × (asks (text "call=import entries=1/ ") ≡ Unreadable) × (asks (text "call=import entries=-") ≡ Unreadable) × (asks (text "call=import") ≡ Unreadable)
    × (asks (text "call=append pairs=1:2/3:4") ≡ Unreadable) × (asks (text "call=night node=1 budget=1 outcomes=1/1") ≡ Unreadable)
unfolding asks enters size letter_at like seek_in two_bytes pushed call_of padded flat entry_bytes
entries = (
  refl,
  refl,
  refl,
  refl,
  refl,
  refl,
  refl,
  refl,
  refl,
  refl,
  refl,
  refl,
  refl,
  refl,
  refl,
  refl,
  refl,
  refl,
  refl,
)

-- ---- an owner (order 7): any number is a path that can be read, and 32 is refused later
owners :
    (asks (text "call=owner path=3") ≡ Owner 3) × (asks (text "call=owner path=0032") ≡ Owner 32) × (asks (text "call=owner path=65535") ≡ Owner 65535)
    × (gives (text "call=owner path=3") ≡ []) × (asks (text "call=owner path=65536") ≡ Unreadable) × (asks (text "call=owner path=") ≡ Unreadable)
    × (asks (text "call=owner") ≡ Unreadable) × (asks (text "call=owner node=3") ≡ Unreadable) × (asks (text "call=owner path=3:7") ≡ Unreadable)
unfolding asks gives size letter_at like seek_in pushed call_of
owners = (refl, refl, refl, refl, refl, refl, refl, refl, refl)

-- ---- a fresh start (order 13): any number can be read, and what is neither 0 nor 1 is refused later
fresh_starts :
    (asks (text "call=fresh remembers=1") ≡ Fresh 1) × (asks (text "call=fresh remembers=00") ≡ Fresh 0) × (asks (text "call=fresh remembers=2") ≡ Fresh 2)
    × (gives (text "call=fresh remembers=1") ≡ []) × (asks (text "call=fresh remembers=65536") ≡ Unreadable) × (asks (text "call=fresh remembers=") ≡ Unreadable)
    × (asks (text "call=fresh") ≡ Unreadable) × (asks (text "call=fresh node=1") ≡ Unreadable) × (asks (text "call=fresh remembers=1:1") ≡ Unreadable)
unfolding asks gives size letter_at like seek_in pushed call_of
fresh_starts = (refl, refl, refl, refl, refl, refl, refl, refl, refl)

-- ---- numbers
-- d are the digits of n, and the first is no 0 unless n is 0
pub record Fair (n : ℕ) (d : List ℕ) : Type 0 where
  pub some : 1 ≤ length d
  pub digits : all_digits d ≡ true
  pub worth : foldl tenfold 0 d ≡ n
  pub lead : 1 ≤ n → 49 ≤ get_or d 0 0

is_digit_holds : (n : ℕ) → n < 10 → is_digit (48 + n) ≡ true
is_digit_holds n h = rw (le-leb 48 (48 + n) (omega arith), le-leb (48 + n) 57 (omega arith))

all_joined : (d : List ℕ) (b : ℕ) → all_digits d ≡ true → is_digit b ≡ true → all_digits (d ++ (b ∷ [])) ≡ true
unfolding all_digits
all_joined [] b h g = rw g
all_joined (a ∷ d) b h g = rw (and_left (is_digit a) (all_digits d) h) (all_joined d b (and_right (is_digit a) (all_digits d) h) g)

lead_joined : (d : List ℕ) (b : ℕ) → 1 ≤ length d → get_or (d ++ (b ∷ [])) 0 0 ≡ get_or d 0 0
lead_joined [] b h = absurd (omega arith)
lead_joined (a ∷ d) b h = refl

fair_one : (n : ℕ) → n < 10 → Fair n ((48 + n) ∷ [])
unfolding all_digits
fair_one n h = record { some = omega arith; digits = rw (is_digit_holds n h); worth = omega arith; lead = λ g. omega arith }

fair_more : (n : ℕ) (d : List ℕ) → 10 ≤ n → Fair (n / 10) d → Fair n (d ++ ((48 + n % 10) ∷ []))
fair_more n d h x =
    record {
      some = omega (arith, length-append d ((48 + n % 10) ∷ []));
      digits = all_joined d (48 + n % 10) x.digits (is_digit_holds (n % 10) (omega arith));
      worth = foldl-append tenfold 0 d ((48 + n % 10) ∷ []) ∙ omega (arith, x.worth);
      lead = λ g. omega (arith, lead_joined d (48 + n % 10) x.some, x.lead (omega arith));
    }

fair_spelled : (k n : ℕ) → n < 10 ^ suc k → Fair n (spelled (suc k) n)
unfolding spelled
fair_spelled zero n h = by (ltb n 10) refl
  where
    by : (t : Bool) → ltb n 10 ≡ t → Fair n (cond t ((48 + n) ∷ []) ([] ++ ((48 + n % 10) ∷ [])))
    by true e = fair_one n (ltb-true n 10 e)
    by false e = absurd (omega (arith, ltb-false n 10 e))
fair_spelled (suc k) n h = by (fair_spelled k (n / 10) (omega (arith, pow-suc 10 (suc k)))) (ltb n 10) refl
  where
    by : Fair (n / 10) (spelled (suc k) (n / 10)) → (t : Bool) → ltb n 10 ≡ t → Fair n
        (cond t ((48 + n) ∷ []) (spelled (suc k) (n / 10) ++ ((48 + n % 10) ∷ [])))
    by x true e = fair_one n (ltb-true n 10 e)
    by x false e = fair_more n (spelled (suc k) (n / 10)) (ltb-false n 10 e) x

-- what is written of a number of 32 bits
pub decimal_fair : (n : ℕ) → n < 2 ^ 32 → Fair n (decimal n)
unfolding decimal
decimal_fair n h = fair_spelled 9 n (omega arith)

-- a number of a line, written and read back
pub read_back : (n : ℕ) → n ≤ 65535 → Number (decimal n) n
read_back n h =
    let x = decimal_fair n (omega arith) in
    record { some = x.some; digits = x.digits; worth = x.worth; fits = h }
