-- A line says one thing: what it asks for is settled by the call that is handed on and by what it tells. Assumes nothing.
use Prim.Native.Nat.{ℕ}
use mathlib.Core.Path.{◌≡◌, refl, sym, ap, ap₂, ◌∙◌, subst}
use mathlib.Core.List.{List, [], ◌∷◌, ◌++◌, append_assoc, append-nil}
use lib.ListN.{drop}
use Rattle.machine.specs.Calls as machine
use Rattle.machine.specs.Calls.{Pair}
use Rattle.machine.specs.Import.{Entry, adds, undoes, neither}
use Rattle.lines.specs.Forms.{Asked, calls, why, night, imports, owner, freshly, Token, letter, number, pairs, digits, entries, Asks, Form, forms}
use Rattle.lines.specs.Grammar.{pair, flat, worths, Item, plain, inner, close, undo, as_items, items, Fits, fits_end, fits_letter, fits_number, fits_none, fits_pairs, fits_digits, fits_no_entry, fits_entries, Says}
use Rattle.lines.specs.declared.reading.Call.{Call}
use Rattle.lines.specs.declared.reading.Call.TheVariants.{Append, Rollback, Start, Stop, Connect, Disconnect, Master, Sync, Work, Fold, Why, Night, Import, Owner, Fresh, Unreadable}
use Rattle.lines.specs.Handed.{call_for, SmallEntries}
use Rattle.lines.proofs.Each.{◌&◌, Each, each_among}
use Rattle.lines.proofs.Handing.{entries_small}
use Rattle.lines.proofs.Readable.{goes_through, hands_once}

-- ---- what was told, put together again
abbrev worth : Item → ℕ
worth (plain n) = n
worth (inner n) = n
worth close = 0
worth (undo n) = n

unfoldable numbers_in : List Item → List ℕ
numbers_in [] = []
numbers_in (i ∷ is) = worth i ∷ numbers_in is

unfoldable paired : List ℕ → List Pair
paired [] = []
paired (p ∷ []) = []
paired (p ∷ v ∷ ns) = pair p v ∷ paired ns

-- the numbers ns of a change came before
unfoldable entered : List ℕ → List Item → List Entry
entered ns [] = []
entered ns (plain n ∷ is) = entered ns is
entered ns (inner n ∷ is) = entered (ns ++ (n ∷ [])) is
entered ns (close ∷ is) = adds (paired ns) ∷ entered [] is
entered ns (undo n ∷ is) = undoes n ∷ entered [] is

plain_back : (ns : List ℕ) → numbers_in (as_items plain ns) ≡ ns
unfolding numbers_in as_items
plain_back [] = refl
plain_back (n ∷ ns) = ap (λ (z : List ℕ). n ∷ z) (plain_back ns)

flat_back : (ps : List Pair) → paired (flat ps) ≡ ps
unfolding paired flat
flat_back [] = refl
flat_back (p ∷ ps) = ap (λ (z : List Pair). p ∷ z) (flat_back ps)

inner_back : (ms ns : List ℕ) (is : List Item) → entered ns (as_items inner ms ++ is) ≡ entered (ns ++ ms) is
unfolding entered as_items
inner_back [] ns is = ap (λ (z : List ℕ). entered z is) (sym (append-nil ns))
inner_back (m ∷ ms) ns is = inner_back ms (ns ++ (m ∷ [])) is ∙ ap (λ (z : List ℕ). entered z is) (append_assoc ns (m ∷ []) ms)

entries_back : (es : List Entry) → SmallEntries es → entered [] (items es) ≡ es
unfolding entered items
entries_back [] s = refl
entries_back (adds ps ∷ es) s =
    ap (entered []) (append_assoc (as_items inner (flat ps)) (close ∷ []) (items es)) ∙ inner_back (flat ps) [] (close ∷ items es)
    ∙ ap₂ (λ (qs : List Pair) (z : List Entry). adds qs ∷ z) (flat_back ps) (entries_back es s.1)
entries_back (undoes n ∷ es) s = ap (λ (z : List Entry). undoes n ∷ z) (entries_back es s.1)
entries_back (neither ∷ es) s = absurd s.0

-- ---- what is asked, by the call and what is told
abbrev asked_of : Call → List Item → Asked
asked_of Append is = calls (machine.append (paired (numbers_in is)))
asked_of (Rollback n) is = calls (machine.rollback n)
asked_of Start is = calls machine.start
asked_of Stop is = calls machine.stop
asked_of (Connect n) is = calls (machine.connect n)
asked_of (Disconnect n) is = calls (machine.disconnect n)
asked_of (Master n) is = calls (machine.master n)
asked_of (Sync n) is = calls (machine.sync n)
asked_of (Work n j i o c) is = calls (machine.work n j i o c)
asked_of (Fold n) is = calls (machine.fold_to n)
asked_of (Why n j i) is = why n j i
asked_of (Night n b) is = night n b (drop 2 (numbers_in is))
asked_of Import is = imports (entered [] is)
asked_of (Owner p) is = owner p
asked_of (Fresh r) is = freshly r
asked_of Unreadable is = calls machine.stop

abbrev Tells : Asked → List Item → Type 0
Tells x is = asked_of (call_for x) is ≡ x

-- whatever stands at the marks of f, behind what was told
abbrev TellsRow : (f : List Token) → Asks f → List Item → Type 0
TellsRow [] x is = Tells x is
TellsRow (letter c ∷ f) a is = TellsRow f a is
TellsRow (number ∷ f) a is = (n : ℕ) → TellsRow f (a n) (is ++ (plain n ∷ []))
TellsRow (pairs ∷ f) a is = (ps : List Pair) → TellsRow f (a ps) (is ++ as_items plain (flat ps))
TellsRow (digits ∷ f) a is = (os : List ℕ) → TellsRow f (a os) (is ++ as_items plain os)
TellsRow (entries ∷ f) a is = (es : List Entry) → SmallEntries es → TellsRow f (a es) (is ++ items es)

abbrev Row : Form → Type 0
Row f = TellsRow f.form f.asks []

each : Each Row forms
unfolding numbers_in
each =
    refl & refl & (λ n. refl) & (λ ps. ap (λ (z : List Pair). calls (machine.append z)) (ap paired (plain_back (flat ps)) ∙ flat_back ps)) & (λ n. refl) & (λ n. refl)
    & (λ n. refl) & (λ n. refl) & (λ n j i o c. refl) & (λ n. refl) & (λ n j i. refl) & (λ n b os. ap (night n b) (plain_back os))
    & (λ es s. ap imports (entries_back es s)) & (λ p. refl) & (λ r. refl) & tt

fits_tell : {f : List Token} {a : Asks f} {l : List ℕ} {ns : List Item} {x : Asked} → Fits f a l ns x → (m : List Item) → TellsRow f a m → Tells x (m ++ ns)
unfolding flat as_items items
fits_tell {x = x} fits_end m h = subst (λ (z : List Item). Tells x z) (sym (append-nil m)) h
fits_tell (fits_letter w y) m h = fits_tell y m h
fits_tell {x = x} (fits_number {n = n} {ns = ns} k y) m h = subst (λ (z : List Item). Tells x z) (append_assoc m (plain n ∷ []) ns) (fits_tell y (m ++ (plain n ∷ [])) (h n))
fits_tell {x = x} (fits_none {ns = ns} y) m h = subst (λ (z : List Item). Tells x (z ++ ns)) (append-nil m) (fits_tell y (m ++ []) (h []))
fits_tell {x = x} (fits_pairs {ps = ps} {ns = ns} r y) m h =
    subst (λ (z : List Item). Tells x z) (append_assoc m (as_items plain (flat ps)) ns) (fits_tell y (m ++ as_items plain (flat ps)) (h ps))
fits_tell {x = x} (fits_digits d {ns = ns} a y) m h =
    subst (λ (z : List Item). Tells x z) (append_assoc m (as_items plain (worths d)) ns) (fits_tell y (m ++ as_items plain (worths d)) (h (worths d)))
fits_tell {x = x} (fits_no_entry {ns = ns} y) m h = subst (λ (z : List Item). Tells x (z ++ ns)) (append-nil m) (fits_tell y (m ++ []) (h [] tt))
fits_tell {x = x} (fits_entries {es = es} {ns = ns} o r y) m h =
    subst (λ (z : List Item). Tells x z) (append_assoc m (items es) ns) (fits_tell y (m ++ items es) (h es (entries_small r)))

says_tell : {l : List ℕ} {x : Asked} (s : Says l x) → Tells x s.tells
says_tell s = fits_tell s.fits [] (each_among Row s.of forms each s.among)

pub says_once : {l : List ℕ} {x y : Asked} → Says l x → Says l y → x ≡ y
says_once s t =
    sym (says_tell s) ∙ ap₂ (λ (c : Call) (is : List Item). asked_of c is) (hands_once s t) ((goes_through s).is ∙ sym (goes_through t).is) ∙ says_tell t
