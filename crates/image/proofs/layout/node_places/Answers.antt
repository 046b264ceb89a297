-- `node_places` lists the places of seven nodes' connections, and of the eight marks in them. Assumes nothing.
use Prim.Native.Nat.{ℕ, ◌+◌}
use mathlib.Core.Path.{◌≡◌, refl, ap, ap₂}
use mathlib.Core.List.{List, ◌∷◌}
use Rattle.image.specs.Layout.{connected_in}
use Rattle.image.proofs.layout.node_places.Goals as goal

next : {x y : ℕ} {xs ys : List ℕ} → x ≡ y → xs ≡ ys → x ∷ xs ≡ y ∷ ys
next e f = ap₂ (λ (x : ℕ) (xs : List ℕ). x ∷ xs) e f

connected : {x y : ℕ} → x ≡ y → x + connected_in ≡ y + connected_in
connected e = ap (λ (x : ℕ). x + connected_in) e

pub returns : goal.returns
returns c =
    next c.node_at.ensures (next c.node_at-2.ensures (next c.node_at-3.ensures (next c.node_at-4.ensures (next c.node_at-5.ensures (next c.node_at-6.ensures (next c.node_at-7.ensures (next (connected c.node_at-8.ensures) (next (connected c.node_at-9.ensures) (next (connected c.node_at-10.ensures) (next (connected c.node_at-11.ensures) (next (connected c.node_at-12.ensures) (next (connected c.node_at-13.ensures) (next (connected c.node_at-14.ensures) (next (connected c.node_at-15.ensures) refl))))))))))))))
