-- The paper's nine lines, the fold's, why's, the night's, the import's, the owner's and the fresh start's, each written out, are what the table says,
-- and nothing else is. Assumes nothing.
use Prim.Native.Nat.{ℕ, ◌≤◌}
use mathlib.Core.Path.{◌≡◌, refl, ap, sym, subst, ◌∙◌}
use mathlib.Core.List.{List, [], ◌∷◌, ◌++◌, append_assoc, append-nil}
use mathlib.Core.Bool.{Bool, true, false, cond, ◌&&◌, ◌||◌}
use lib.Dec.{eqb}
use lib.ListN.{length, get_or}
use Rattle.machine.specs.Calls as machine
use Rattle.machine.specs.Calls.{Pair}
use Rattle.machine.specs.Import.{Entry}
use Rattle.lines.specs.Text.{text}
use Rattle.lines.specs.Forms.{Asked, calls, why, night, imports, owner, freshly, Token, letter, number, pairs, digits, entries, Asks, Form, forms}
use Rattle.lines.specs.Grammar.{all_digits, flat, worths, is_word, Number, Row, Entries, Item, plain, as_items, items, Fits, fits_end, fits_letter, fits_number, fits_none, fits_pairs, fits_digits, fits_no_entry, fits_entries, Among, here, there, Says}
use Rattle.lines.proofs.Classes.{differ, and_left, and_right}
use Rattle.lines.proofs.Each.{◌&◌, Each, each_among}

pub data Line : List ℕ → Asked → Type 0 where
  line_no_pairs : Line (text "call=append pairs=") (calls (machine.append []))
  line_append : {l : List ℕ} {ps : List Pair} → Row l ps → Line (text "call=append pairs=" ++ l) (calls (machine.append ps))
  line_rollback : {d : List ℕ} {n : ℕ} → Number d n → Line (text "call=rollback number=" ++ d) (calls (machine.rollback n))
  line_start : Line (text "call=start") (calls machine.start)
  line_stop : Line (text "call=stop") (calls machine.stop)
  line_connect : {d : List ℕ} {n : ℕ} → Number d n → Line (text "call=connect node=" ++ d) (calls (machine.connect n))
  line_disconnect : {d : List ℕ} {n : ℕ} → Number d n → Line (text "call=disconnect node=" ++ d) (calls (machine.disconnect n))
  line_master : {d : List ℕ} {n : ℕ} → Number d n → Line (text "call=master node=" ++ d) (calls (machine.master n))
  line_sync : {d : List ℕ} {n : ℕ} → Number d n → Line (text "call=sync node=" ++ d) (calls (machine.sync n))
  line_work :
      {a b d e f : List ℕ} {n j i o c : ℕ} → Number a n → Number b j → Number d i → Number e o → Number f c →
      Line (text "call=work node=" ++ a ++ text " job=" ++ b ++ text " number=" ++ d ++ text " outcome=" ++ e ++ text " cut=" ++ f) (calls (machine.work n j i o c))
  line_fold : {d : List ℕ} {n : ℕ} → Number d n → Line (text "call=fold number=" ++ d) (calls (machine.fold_to n))
  line_why :
      {a b d : List ℕ} {n j i : ℕ} → Number a n → Number b j → Number d i →
      Line (text "call=why node=" ++ a ++ text " job=" ++ b ++ text " number=" ++ d) (why n j i)
  line_night :
      {a b : List ℕ} {n k : ℕ} → Number a n → Number b k → (d : List ℕ) → all_digits d ≡ true →
      Line (text "call=night node=" ++ a ++ text " budget=" ++ b ++ text " outcomes=" ++ d) (night n k (worths d))
  line_no_entries : Line (text "call=import entries=") (imports [])
  line_import : {d : List ℕ} {es : List Entry} → 1 ≤ length d → Entries d es → Line (text "call=import entries=" ++ d) (imports es)
  line_owner : {d : List ℕ} {p : ℕ} → Number d p → Line (text "call=owner path=" ++ d) (owner p)
  line_fresh : {d : List ℕ} {r : ℕ} → Number d r → Line (text "call=fresh remembers=" ++ d) (freshly r)

-- ---- a text of letters at the front of a form
abbrev letters : List ℕ → List Token → List Token
letters [] f = f
letters (c ∷ t) f = letter c ∷ letters t f

abbrev within : (t : List ℕ) (f : List Token) → Asks f → Asks (letters t f)
within [] f a = a
within (c ∷ t) f a = within t f a

abbrev words : List ℕ → Bool
words [] = true
words (c ∷ t) = is_word c && words t

fits_text :
    (t : List ℕ) {f : List Token} {a : Asks f} {l : List ℕ} {ns : List Item} {x : Asked} → words t ≡ true → Fits f a l ns x → Fits (letters t f) (within t f a)
    (t ++ l) ns x
fits_text [] h y = y
fits_text (c ∷ t) h y = fits_letter (and_left (is_word c) (words t) h) (fits_text t (and_right (is_word c) (words t) h) y)

record Rest (t : List ℕ) (f : List Token) (a : Asks f) (l : List ℕ) (ns : List Item) (x : Asked) : Type 0 where
  rest : List ℕ
  is : l ≡ t ++ rest
  fits : Fits f a rest ns x

text_rest : (t : List ℕ) (f : List Token) (a : Asks f) {l : List ℕ} {ns : List Item} {x : Asked} → Fits (letters t f) (within t f a) l ns x → Rest t f a l ns x
text_rest [] f a {l} y = record { rest = l; is = refl; fits = y }
text_rest (c ∷ t) f a (fits_letter w y) =
    let z = text_rest t f a y in
    record { rest = z.rest; is = ap (λ (k : List ℕ). c ∷ k) z.is; fits = z.fits }

-- ---- a number at the end
record Last (a : ℕ → Asked) (l : List ℕ) (ns : List Item) (x : Asked) : Type 0 where
  n : ℕ
  number : Number l n
  is : x ≡ a n

last : (a : ℕ → Asked) {l : List ℕ} {ns : List Item} {x : Asked} → Fits (number ∷ []) a l ns x → Last a l ns x
last a (fits_number {d} {n} k fits_end) = record { n = n; number = subst (λ (z : List ℕ). Number z n) (sym (append-nil d)) k; is = refl }

at_end : {d : List ℕ} {n : ℕ} {a : ℕ → Asked} → Number d n → Fits (number ∷ []) a d (plain n ∷ []) (a n)
at_end {d} {n} {a} k = subst (λ (z : List ℕ). Fits (number ∷ []) a z (plain n ∷ []) (a n)) (append-nil d) (fits_number k fits_end)

-- the row with a tag: none is counted
abbrev tagged : List ℕ → List Form → Form
tagged t [] = record { form = []; tag = 0; asks = calls machine.stop }
tagged t (f ∷ fs) = cond (eqb (get_or t 0 0) f.tag) f (tagged t fs)

abbrev has : List ℕ → List Form → Bool
has t [] = false
has t (f ∷ fs) = eqb (get_or t 0 0) f.tag || has t fs

tagged_among : (t : List ℕ) (fs : List Form) → has t fs ≡ true → Among (tagged t fs) fs
tagged_among t [] h = differ (sym h)
tagged_among t (f ∷ fs) h = by (eqb (get_or t 0 0) f.tag) h (λ g. tagged_among t fs g)
  where
    by : (b : Bool) → b || has t fs ≡ true → (has t fs ≡ true → Among (tagged t fs) fs) → Among (cond b f (tagged t fs)) (f ∷ fs)
    by true h k = here
    by false h k = there (k h)

says_by : (t : List ℕ) → has t forms ≡ true → {l : List ℕ} {ns : List Item} {x : Asked} → Fits (tagged t forms).form (tagged t forms).asks l ns x → Says l x
says_by t h {ns = ns} y = record { of = tagged t forms; among = tagged_among t forms h; tells = ns; fits = y }

work_fits :
    {a b d e f : List ℕ} {n j i o c : ℕ} → Number a n → Number b j → Number d i → Number e o → Number f c →
    Fits (letters (text "call=work node=") (number ∷ letters (text " job=")
    (number ∷ letters (text " number=") (number ∷ letters (text " outcome=") (number ∷ letters (text " cut=") (number ∷ []))))))
    (λ n j i o c. calls (machine.work n j i o c))
    (text "call=work node=" ++ (a ++ (text " job=" ++ (b ++ (text " number=" ++ (d ++ (text " outcome=" ++ (e ++ (text " cut=" ++ f)))))))))
    (plain n ∷ plain j ∷ plain i ∷ plain o ∷ plain c ∷ []) (calls (machine.work n j i o c))
work_fits x y z u w =
    fits_text (text "call=work node=") refl
    (fits_number x (fits_text (text " job=") refl
    (fits_number y (fits_text (text " number=") refl
    (fits_number z (fits_text (text " outcome=") refl
    (fits_number u (fits_text (text " cut=") refl (at_end w)))))))))

why_fits :
    {a b d : List ℕ} {n j i : ℕ} → Number a n → Number b j → Number d i →
    Fits (letters (text "call=why node=") (number ∷ letters (text " job=") (number ∷ letters (text " number=") (number ∷ [])))) (λ n j i. why n j i)
    (text "call=why node=" ++ (a ++ (text " job=" ++ (b ++ (text " number=" ++ d))))) (plain n ∷ plain j ∷ plain i ∷ []) (why n j i)
why_fits x y z =
    fits_text (text "call=why node=") refl
    (fits_number x (fits_text (text " job=") refl (fits_number y (fits_text (text " number=") refl (at_end z)))))

-- digits at the end
all_end : {d : List ℕ} {a : List ℕ → Asked} → all_digits d ≡ true → Fits (digits ∷ []) a d (as_items plain (worths d)) (a (worths d))
all_end {d} {a} h =
    subst (λ (z : List ℕ). Fits (digits ∷ []) a z (as_items plain (worths d)) (a (worths d))) (append-nil d)
    (subst (λ (z : List Item). Fits (digits ∷ []) a (d ++ []) z (a (worths d))) (append-nil (as_items plain (worths d))) (fits_digits d h fits_end))

night_fits :
    {a b : List ℕ} {n k : ℕ} → Number a n → Number b k → (d : List ℕ) → all_digits d ≡ true →
    Fits (letters (text "call=night node=") (number ∷ letters (text " budget=") (number ∷ letters (text " outcomes=") (digits ∷ [])))) (λ n k os. night n k os)
    (text "call=night node=" ++ (a ++ (text " budget=" ++ (b ++ (text " outcomes=" ++ d))))) (plain n ∷ plain k ∷ as_items plain (worths d)) (night n k (worths d))
night_fits x y d h =
    fits_text (text "call=night node=") refl
    (fits_number x (fits_text (text " budget=") refl (fits_number y (fits_text (text " outcomes=") refl (all_end h)))))

-- ---- each line of the paper is said
pub line_says : {l : List ℕ} {x : Asked} → Line l x → Says l x
unfolding flat
line_says line_no_pairs = says_by (text "A") refl (fits_text (text "call=append pairs=") refl (fits_none fits_end))
line_says (line_append {l} {ps} r) =
    says_by (text "A") refl (fits_text (text "call=append pairs=") refl
    (subst (λ (z : List ℕ). Fits (pairs ∷ []) (λ qs. calls (machine.append qs)) z (as_items plain (flat ps) ++ []) (calls (machine.append ps))) (append-nil l)
    (fits_pairs r fits_end)))
line_says (line_connect x) = says_by (text "C") refl (fits_text (text "call=connect node=") refl (at_end x))
line_says (line_disconnect x) = says_by (text "D") refl (fits_text (text "call=disconnect node=") refl (at_end x))
line_says (line_master x) = says_by (text "M") refl (fits_text (text "call=master node=") refl (at_end x))
line_says (line_rollback x) = says_by (text "R") refl (fits_text (text "call=rollback number=") refl (at_end x))
line_says (line_sync x) = says_by (text "Y") refl (fits_text (text "call=sync node=") refl (at_end x))
line_says (line_fold x) = says_by (text "F") refl (fits_text (text "call=fold number=") refl (at_end x))
line_says line_start = says_by (text "S") refl (fits_text (text "call=start") refl fits_end)
line_says line_stop = says_by (text "T") refl (fits_text (text "call=stop") refl fits_end)
line_says (line_work {a} {b} {d} {e} {f} {n} {j} {i} {o} {c} x y z u w) =
    subst (λ (k : List ℕ). Says k (calls (machine.work n j i o c))) (regroup a b d e f)
    (says_by (text "W") refl (work_fits x y z u w))
  where
    regroup :
        (a b d e f : List ℕ) →
        text "call=work node=" ++ (a ++ (text " job=" ++ (b ++ (text " number=" ++ (d ++ (text " outcome=" ++ (e ++ (text " cut=" ++ f))))))))
        ≡ text "call=work node=" ++ a ++ text " job=" ++ b ++ text " number=" ++ d ++ text " outcome=" ++ e ++ text " cut=" ++ f
    regroup a b d e f = simp append_assoc
line_says (line_why {a} {b} {d} {n} {j} {i} x y z) =
    subst (λ (k : List ℕ). Says k (why n j i)) (regroup a b d)
    (says_by (text "Q") refl (why_fits x y z))
  where
    regroup :
        (a b d : List ℕ) →
        text "call=why node=" ++ (a ++ (text " job=" ++ (b ++ (text " number=" ++ d))))
        ≡ text "call=why node=" ++ a ++ text " job=" ++ b ++ text " number=" ++ d
    regroup a b d = simp append_assoc
line_says (line_night {a} {b} {n} {k} x y d h) =
    subst (λ (z : List ℕ). Says z (night n k (worths d))) (regroup a b d)
    (says_by (text "N") refl (night_fits x y d h))
  where
    regroup :
        (a b d : List ℕ) →
        text "call=night node=" ++ (a ++ (text " budget=" ++ (b ++ (text " outcomes=" ++ d))))
        ≡ text "call=night node=" ++ a ++ text " budget=" ++ b ++ text " outcomes=" ++ d
    regroup a b d = simp append_assoc
line_says line_no_entries = says_by (text "I") refl (fits_text (text "call=import entries=") refl (fits_no_entry fits_end))
line_says (line_import {d} {es} o r) =
    says_by (text "I") refl (fits_text (text "call=import entries=") refl
    (subst (λ (z : List ℕ). Fits (entries ∷ []) imports z (items es ++ []) (imports es)) (append-nil d) (fits_entries o r fits_end)))
line_says (line_owner x) = says_by (text "O") refl (fits_text (text "call=owner path=") refl (at_end x))
line_says (line_fresh x) = says_by (text "B") refl (fits_text (text "call=fresh remembers=") refl (at_end x))

-- ---- and what a row says is one of those lines
pub record Lined (l : List ℕ) (x : Asked) : Type 0 where
  pub asked : Asked
  pub is : x ≡ asked
  pub line : Line l asked

moved : {l l' : List ℕ} {x : Asked} → l ≡ l' → Lined l' x → Lined l x
moved {x = x} e y = subst (λ (k : List ℕ). Lined k x) (sym e) y

single :
    (t : List ℕ) (a : ℕ → Asked) {l : List ℕ} {ns : List Item} {x : Asked} → ((d : List ℕ) (n : ℕ) → Number d n → Line (t ++ d) (a n)) →
    Fits (letters t (number ∷ [])) (within t (number ∷ []) a) l ns x → Lined l x
single t a f y =
    let z = text_rest t (number ∷ []) a y in
    let w = last a z.fits in
    moved z.is (record { asked = a w.n; is = w.is; line = f z.rest w.n w.number })

ended : (t : List ℕ) (c : Asked) {l : List ℕ} {ns : List Item} {x : Asked} → Line t c → Fits [] c l ns x → Lined (t ++ l) x
ended t c k fits_end = record { asked = c; is = refl; line = subst (λ (l : List ℕ). Line l c) (sym (append-nil t)) k }

bare : (t : List ℕ) (c : Asked) {l : List ℕ} {ns : List Item} {x : Asked} → Line t c → Fits (letters t []) (within t [] c) l ns x → Lined l x
bare t c k y = let z = text_rest t [] c y in moved z.is (ended t c k z.fits)

with_pairs_holds : {l : List ℕ} {ns : List Item} {x : Asked} → Fits (pairs ∷ []) (λ ps. calls (machine.append ps)) l ns x → Lined (text "call=append pairs=" ++ l) x
with_pairs_holds (fits_none fits_end) = record { asked = calls (machine.append []); is = refl; line = line_no_pairs }
with_pairs_holds (fits_pairs {d} {ps} r fits_end) =
    record { asked = calls (machine.append ps); is = refl; line = line_append (subst (λ (z : List ℕ). Row z ps) (sym (append-nil d)) r) }

appended : {l : List ℕ} {ns : List Item} {x : Asked} → Fits (letters (text "call=append pairs=") (pairs ∷ [])) (λ ps. calls (machine.append ps)) l ns x → Lined l x
appended y = let z = text_rest (text "call=append pairs=") (pairs ∷ []) (λ ps. calls (machine.append ps)) y in moved z.is (with_pairs_holds z.fits)

with_entries : {l : List ℕ} {ns : List Item} {x : Asked} → Fits (entries ∷ []) imports l ns x → Lined (text "call=import entries=" ++ l) x
with_entries (fits_no_entry fits_end) = record { asked = imports []; is = refl; line = line_no_entries }
with_entries (fits_entries {d} {es} o r fits_end) =
    record {
      asked = imports es;
      is = refl;
      line = subst (λ (z : List ℕ). Line (text "call=import entries=" ++ z) (imports es)) (sym (append-nil d)) (line_import o r);
    }

imported : {l : List ℕ} {ns : List Item} {x : Asked} → Fits (letters (text "call=import entries=") (entries ∷ [])) imports l ns x → Lined l x
imported y = let z = text_rest (text "call=import entries=") (entries ∷ []) imports y in moved z.is (with_entries z.fits)

-- ---- work: five numbers, each behind its key
record Key (f : List Token) (a : ℕ → Asks f) (l : List ℕ) (ns : List Item) (x : Asked) : Type 0 where
  d : List ℕ
  n : ℕ
  rest : List ℕ
  left : List Item
  is : l ≡ d ++ rest
  number : Number d n
  fits : Fits f (a n) rest left x

key : (f : List Token) (a : ℕ → Asks f) {l : List ℕ} {ns : List Item} {x : Asked} → Fits (number ∷ f) a l ns x → Key f a l ns x
key f a (fits_number {d} {n} {l = l} {ns = ns} k y) = record { d = d; n = n; rest = l; left = ns; is = refl; number = k; fits = y }

abbrev W5 : List Token
W5 = number ∷ []

abbrev W4 : List Token
W4 = letters (text " cut=") W5

abbrev W3 : List Token
W3 = letters (text " outcome=") (number ∷ W4)

abbrev W2 : List Token
W2 = letters (text " number=") (number ∷ W3)

abbrev W1 : List Token
W1 = letters (text " job=") (number ∷ W2)

abbrev asks_work : ℕ → ℕ → ℕ → ℕ → ℕ → Asked
asks_work n j i o c = calls (machine.work n j i o c)

-- a key, its number, and what holds of the rest
behind_key :
    (t : List ℕ) (f : List Token) (a : ℕ → Asks f) {l : List ℕ} {ns : List Item} {x : Asked} (P : List ℕ → Type 0) →
    Fits (letters t (number ∷ f)) (within t (number ∷ f) a) l ns x →
    ((d : List ℕ) (n : ℕ) (r : List ℕ) (ms : List Item) → Number d n → Fits f (a n) r ms x → P (t ++ (d ++ r))) → P l
behind_key t f a P y go =
    let z = text_rest t (number ∷ f) a y in
    let k = key f a z.fits in
    subst P (sym (z.is ∙ ap (λ (r : List ℕ). t ++ r) k.is)) (go k.d k.n k.rest k.left k.number k.fits)

-- the four keys before the last
abbrev Behind : (a b d e l : List ℕ) → List ℕ
Behind a b d e l = text "call=work node=" ++ (a ++ (text " job=" ++ (b ++ (text " number=" ++ (d ++ (text " outcome=" ++ (e ++ l)))))))

last_key :
    (a b d e : List ℕ) (n j i o : ℕ) {l : List ℕ} {ns : List Item} {x : Asked} → Number a n → Number b j → Number d i → Number e o → Fits W4 (asks_work n j i o) l ns x →
    Lined (Behind a b d e l) x
last_key a b d e n j i o u v w s y =
    let z = text_rest (text " cut=") W5 (asks_work n j i o) y in
    let k = last (asks_work n j i o) z.fits in
    moved (ap (λ (r : List ℕ). Behind a b d e r) z.is ∙ regroup z.rest)
    (record { asked = asks_work n j i o k.n; is = k.is; line = line_work u v w s k.number })
  where
    regroup :
        (f : List ℕ) → Behind a b d e (text " cut=" ++ f) ≡
        text "call=work node=" ++ a ++ text " job=" ++ b ++ text " number=" ++ d ++ text " outcome=" ++ e ++ text " cut=" ++ f
    regroup f = simp append_assoc

worked : {l : List ℕ} {ns : List Item} {x : Asked} → Fits (letters (text "call=work node=") (number ∷ W1)) asks_work l ns x → Lined l x
worked {x = x} y =
    behind_key (text "call=work node=") W1 asks_work (λ r. Lined r x) y
    (λ a n r1 ns1 u y1. behind_key (text " job=") W2 (asks_work n) (λ r. Lined (text "call=work node=" ++ (a ++ r)) x) y1
    (λ b j r2 ns2 v y2.
    behind_key (text " number=") W3 (asks_work n j) (λ r. Lined (text "call=work node=" ++ (a ++ (text " job=" ++ (b ++ r)))) x) y2
    (λ d i r3 ns3 w y3.
    behind_key (text " outcome=") W4 (asks_work n j i)
    (λ r. Lined (text "call=work node=" ++ (a ++ (text " job=" ++ (b ++ (text " number=" ++ (d ++ r)))))) x) y3
    (λ e o r4 ns4 s y4. last_key a b d e n j i o u v w s y4))))

-- ---- why: three
abbrev Y3 : List Token
Y3 = letters (text " number=") (number ∷ [])

abbrev Y2 : List Token
Y2 = letters (text " job=") (number ∷ Y3)

third_key :
    (a b : List ℕ) (n j : ℕ) {l : List ℕ} {ns : List Item} {x : Asked} → Number a n → Number b j → Fits Y3 (why n j) l ns x →
    Lined (text "call=why node=" ++ (a ++ (text " job=" ++ (b ++ l)))) x
third_key a b n j u v y =
    let z = text_rest (text " number=") (number ∷ []) (why n j) y in
    let k = last (why n j) z.fits in
    moved (ap (λ (r : List ℕ). text "call=why node=" ++ (a ++ (text " job=" ++ (b ++ r)))) z.is ∙ regroup z.rest)
    (record { asked = why n j k.n; is = k.is; line = line_why u v k.number })
  where
    regroup :
        (d : List ℕ) → text "call=why node=" ++ (a ++ (text " job=" ++ (b ++ (text " number=" ++ d)))) ≡
        text "call=why node=" ++ a ++ text " job=" ++ b ++ text " number=" ++ d
    regroup d = simp append_assoc

asked_why : {l : List ℕ} {ns : List Item} {x : Asked} → Fits (letters (text "call=why node=") (number ∷ Y2)) why l ns x → Lined l x
asked_why {x = x} y =
    behind_key (text "call=why node=") Y2 why (λ r. Lined r x) y
    (λ a n r1 ns1 u y1. behind_key (text " job=") Y3 (why n) (λ r. Lined (text "call=why node=" ++ (a ++ r)) x) y1
    (λ b j r2 ns2 v y2. third_key a b n j u v y2))

-- ---- a night: two, and digits
abbrev N3 : List Token
N3 = letters (text " outcomes=") (digits ∷ [])

abbrev N2 : List Token
N2 = letters (text " budget=") (number ∷ N3)

ended_night :
    (a b : List ℕ) (n k : ℕ) {l : List ℕ} {ns : List Item} {x : Asked} → Number a n → Number b k → Fits (digits ∷ []) (night n k) l ns x →
    Lined (text "call=night node=" ++ a ++ text " budget=" ++ b ++ text " outcomes=" ++ l) x
ended_night a b n k u v (fits_digits d h fits_end) =
    record {
      asked = night n k (worths d);
      is = refl;
      line = subst (λ (l : List ℕ). Line (text "call=night node=" ++ a ++ text " budget=" ++ b ++ text " outcomes=" ++ l) (night n k (worths d))) (sym (append-nil d))
          (line_night u v d h);
    }

outcomes_key :
    (a b : List ℕ) (n k : ℕ) {l : List ℕ} {ns : List Item} {x : Asked} → Number a n → Number b k → Fits N3 (night n k) l ns x →
    Lined (text "call=night node=" ++ (a ++ (text " budget=" ++ (b ++ l)))) x
outcomes_key a b n k u v y =
    let z = text_rest (text " outcomes=") (digits ∷ []) (night n k) y in
    moved (ap (λ (r : List ℕ). text "call=night node=" ++ (a ++ (text " budget=" ++ (b ++ r)))) z.is ∙ regroup z.rest) (ended_night a b n k u v z.fits)
  where
    regroup :
        (d : List ℕ) → text "call=night node=" ++ (a ++ (text " budget=" ++ (b ++ (text " outcomes=" ++ d)))) ≡
        text "call=night node=" ++ a ++ text " budget=" ++ b ++ text " outcomes=" ++ d
    regroup d = simp append_assoc

asked_night : {l : List ℕ} {ns : List Item} {x : Asked} → Fits (letters (text "call=night node=") (number ∷ N2)) night l ns x → Lined l x
asked_night {x = x} y =
    behind_key (text "call=night node=") N2 night (λ r. Lined r x) y
    (λ a n r1 ns1 u y1. behind_key (text " budget=") N3 (night n) (λ r. Lined (text "call=night node=" ++ (a ++ r)) x) y1
    (λ b k r2 ns2 v y2. outcomes_key a b n k u v y2))

-- ---- each row
LinesOf : Form → Type 0
LinesOf f = (l : List ℕ) (ns : List Item) (x : Asked) → Fits f.form f.asks l ns x → Lined l x

each : Each LinesOf forms
unfolding LinesOf
each =
    (λ l ns x y. bare (text "call=stop") (calls machine.stop) line_stop y)
    & (λ l ns x y. bare (text "call=start") (calls machine.start) line_start y)
    & (λ l ns x y. single (text "call=sync node=") (λ n. calls (machine.sync n)) (λ d n k. line_sync k) y)
    & (λ l ns x y. appended y)
    & (λ l ns x y. single (text "call=connect node=") (λ n. calls (machine.connect n)) (λ d n k. line_connect k) y)
    & (λ l ns x y. single (text "call=disconnect node=") (λ n. calls (machine.disconnect n)) (λ d n k. line_disconnect k) y)
    & (λ l ns x y. single (text "call=master node=") (λ n. calls (machine.master n)) (λ d n k. line_master k) y)
    & (λ l ns x y. single (text "call=rollback number=") (λ n. calls (machine.rollback n)) (λ d n k. line_rollback k) y)
    & (λ l ns x y. worked y)
    & (λ l ns x y. single (text "call=fold number=") (λ n. calls (machine.fold_to n)) (λ d n k. line_fold k) y)
    & (λ l ns x y. asked_why y)
    & (λ l ns x y. asked_night y)
    & (λ l ns x y. imported y)
    & (λ l ns x y. single (text "call=owner path=") owner (λ d p k. line_owner k) y)
    & (λ l ns x y. single (text "call=fresh remembers=") freshly (λ d r k. line_fresh k) y)
    & tt

pub says_line : {l : List ℕ} {x : Asked} → Says l x → Lined l x
unfolding LinesOf
says_line {l} {x} s = each_among LinesOf s.of forms each s.among l s.tells x s.fits
