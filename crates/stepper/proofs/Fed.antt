-- Bytes taken one by one: the steps of the loop over a block, and how much their answers fill. Assumes nothing.
use Prim.Native.Nat.{ℕ, ◌+◌, ◌*◌, ◌≤◌, ◌<◌}
use mathlib.Core.Path.{◌≡◌, refl, ap, sym, subst, ◌∙◌}
use mathlib.Core.Bool.{Bool, true, false}
use mathlib.Core.List.{List, [], ◌∷◌, ◌++◌}
use native.Mathlib.Numerals.{add-one}
use native.Mathlib.Omega.{arith}
use borrow.Author.Tests.{eq-eqb, ne_eqb}
use lib.Dec.{eqb}
use lib.ListN.{length, take, get_or}
use lib.Seq.{take_all, take-suc}
use Rattle.lines.specs.declared.reading.Reader.{Reader}
use Rattle.lines.specs.Reading.{fresh, pushed, pushed_in, last_in}
use Rattle.stepper.specs.declared.Session.{Session}
use Rattle.stepper.specs.declared.Turn.{Turn}
use Rattle.stepper.specs.Fed.{emptied, EndsLine, TakesIf, Takes, Feeds, none, next, EndsLastIf, EndsLast}
use Rattle.stepper.specs.Closed.{EndsInput}
use Rattle.stepper.specs.Runs.{start, block, Reads, ReadsAll}

-- ---- one byte
pub newline :
    (l out room : List ℕ) (s : Session) (b n : ℕ) (f : Reader) (m after kept : List ℕ) → b ≡ 10 → EndsLine l out room s n m after →
    kept ≡ last_in s.line room → f ≡ fresh → Takes l out room s b (record { line = f; begun = false; used = n; first = false }) m after kept
newline l out room s b n f m after kept e x k h = rw (eq-eqb b 10 e) (x, h, refl, k, refl)

pub other :
    (l out room : List ℕ) (s : Session) (b : ℕ) (f : Reader) (kept : List ℕ) → (b ≡ 10 → ⊥) → f ≡ pushed s.line b → kept ≡ pushed_in s.line b room →
    Takes l out room s b (record { line = f; begun = true; used = s.used; first = s.first }) l out kept
other l out room s b f kept e h k =
    rw (ne_eqb b 10 e) (ap (λ (x : Reader). record { line = x; begun = true; used = s.used; first = s.first }) h, refl, refl, k)

-- ---- the input's end
pub last_line :
    (l out room : List ℕ) (s : Session) (end : ℕ) (m after kept : List ℕ) → s.begun ≡ true → EndsLine l out room s end m after →
    kept ≡ last_in s.line room → EndsLast l out room s end m after kept
last_line l out room s end m after kept e x k = rw e (x, k)

pub no_line : (l out room : List ℕ) (s : Session) → s.begun ≡ false → EndsLast l out room s s.used l out room
no_line l out room s e = rw e (refl, refl, refl, refl)

-- ---- a byte more
feeds_more :
    {l out room bs k a n : List ℕ} {s r : Session} → Feeds l out room s bs r k a n → (b : ℕ) (q : Session) (m after kept : List ℕ) →
    Takes k a n r b q m after kept → Feeds l out room s (bs ++ (b ∷ [])) q m after kept
feeds_more none b q m after kept t = next b t none
feeds_more (next c u f) b q m after kept t = next c u (feeds_more f b q m after kept t)

pub fed_more :
    (l out room : List ℕ) (s : Session) (bs : List ℕ) (i : ℕ) (r : Session) (k a n : List ℕ) (q : Session) (m after kept : List ℕ) → i < length bs →
    Feeds l out room s (take i bs) r k a n → Takes k a n r (get_or bs i 0) q m after kept → Feeds l out room s (take (i + 1) bs) q m after kept
fed_more l out room s bs i r k a n q m after kept h f t =
    subst (λ (x : List ℕ). Feeds l out room s x q m after kept) (sym (ap (λ (n : ℕ). take n bs) (add-one i) ∙ take-suc bs i 0 h))
    (feeds_more f (get_or bs i 0) q m after kept t)

-- all of them
pub fed_all :
    (l out room : List ℕ) (s : Session) (bs : List ℕ) (i : ℕ) (q : Session) (m after kept : List ℕ) → length bs ≤ i →
    Feeds l out room s (take i bs) q m after kept → Feeds l out room s bs q m after kept
fed_all l out room s bs i q m after kept h f = subst (λ (x : List ℕ). Feeds l out room s x q m after kept) (take_all i bs h) f

-- ---- how much the answers fill: 96 bytes for each byte taken, at most
takes_if_room :
    (e : Bool) (l out room : List ℕ) (s : Session) (b : ℕ) (q : Session) (m after kept : List ℕ) → TakesIf e l out room s b q m after kept →
    q.used ≤ s.used + 96
takes_if_room true l out room s b q m after kept x = omega (arith, x.0.puts.ends, x.0.puts.fits)
takes_if_room false l out room s b q m after kept x =
    let h : q.used ≡ s.used = ap (λ (y : Session). y.used) x.0 in omega (arith, h)

pub takes_room :
    (l out room : List ℕ) (s : Session) (b : ℕ) (q : Session) (m after kept : List ℕ) → Takes l out room s b q m after kept → q.used ≤ s.used + 96
takes_room l out room s b = takes_if_room (eqb b 10) l out room s b

pub feeds_room :
    {l out room bs : List ℕ} {s q : Session} {m after kept : List ℕ} → Feeds l out room s bs q m after kept → q.used ≤ s.used + 96 * length bs
feeds_room none = omega arith
feeds_room {l = l} {out = out} {room = room} {s = s} {q = q} (next {k = k} {a = a} {n = n} {bs = bs} {r = r} b t f) =
    let h : r.used ≤ s.used + 96 = takes_room l out room s b r k a n t in
    let g : q.used ≤ r.used + 96 * length bs = feeds_room f in
    omega (arith, h, g)

ends_last_if_room :
    (e : Bool) (l out room : List ℕ) (s : Session) (end : ℕ) (m after kept : List ℕ) → EndsLastIf e l out room s end m after kept → end ≤ s.used + 96
ends_last_if_room true l out room s end m after kept x = omega (arith, x.0.puts.ends, x.0.puts.fits)
ends_last_if_room false l out room s end m after kept x = omega (arith, x.0)

pub ends_last_room :
    (l out room : List ℕ) (s : Session) (end : ℕ) (m after kept : List ℕ) → EndsLast l out room s end m after kept → end ≤ s.used + 96
ends_last_room l out room s = ends_last_if_room s.begun l out room s

pub ends_input_room :
    (l out room : List ℕ) (s : Session) (end : ℕ) (m after kept : List ℕ) → EndsInput l out room s end m after kept → end ≤ s.used + 192
ends_input_room l out room s end m after kept x =
    let h : x.used ≤ s.used + 96 = ends_last_room l out room s x.used m x.answers kept x.last in
    omega (arith, h, x.closes.ends, x.closes.fits)

-- ---- a read and the reads
pub read_fed :
    (l out room : List ℕ) (s e : Session) (bs : List ℕ) (r : Turn) (m after kept : List ℕ) → e ≡ emptied s →
    Feeds l out room e bs r.session m after kept → Reads l room s r m kept
read_fed l out room s e bs r m after kept h f =
    record { bytes = bs; out = out; after = after; feeds = subst (λ (x : Session). Feeds l out room x bs r.session m after kept) h f }

pub none_read : (l room : List ℕ) (line : Reader) → line ≡ fresh → ReadsAll l room (record { line = line; begun = false; used = 0; first = true }) l room
none_read l room line e =
    subst (λ (x : Reader). ReadsAll l room (record { line = x; begun = false; used = 0; first = true }) l room) (sym e)
    (record { bytes = []; text = []; runs = start })

pub read_more :
    (l room : List ℕ) (q : Session) (k n : List ℕ) (r : Turn) (m kept : List ℕ) → ReadsAll l room q k n → Reads k n q r m kept →
    ReadsAll l room r.session m kept
read_more l room q k n r m kept x y =
    record {
      bytes = x.bytes ++ y.bytes;
      text = x.text ++ take r.session.used y.after;
      runs = block x.runs y.bytes y.out y.after m kept r.session y.feeds;
    }
