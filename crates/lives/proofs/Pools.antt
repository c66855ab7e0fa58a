-- Every list of entries can be handed in: its texts one after the other in a pool.
use Rattle.std.proofs.Common.{◌≡◌, ℕ, ◌+◌, ◌≤◌, true, List, [], ◌∷◌, ◌++◌, map, length, take, drop, refl, ap, append_assoc, arith}
use Rattle.std.specs.List.{AllByRecursion}
use Rattle.std.proofs.lemmas.List.{length-append, take_at, drop_at}
use Rattle.std.proofs.lemmas.Bool.{le-leb}
use Rattle.fields.specs.Field.{Value, num, txt}
use Rattle.records.specs.Row.{Entry}
use Rattle.records.specs.Entries.{Handed, value_of, meant, inside}
use Rattle.records.specs.declared.entries.Value.{Value as Given}
use Rattle.records.specs.declared.entries.Value.TheVariants.{Number, Text}
use Rattle.lives.specs.Life.{Inside}

-- values as they are given with a pool
pub record Packed (pool : List ℕ) (vs : List Value) : Type 0 where
  pub given : List Given
  pub mean : map (value_of pool) given ≡ vs
  pub lie : AllByRecursion (λ g. inside pool g ≡ true) given

-- behind what stands in the pool already
pack : (vs : List Value) (front : List ℕ) → (rest : List ℕ) × Packed (front ++ rest) vs
pack [] front = ([], record { given = []; mean = refl; lie = tt })
pack (num n ∷ vs) front =
    let p = pack vs front in
    (p.0, record { given = Number n ∷ p.1.given; mean = ap (λ xs. num n ∷ xs) p.1.mean; lie = (refl, p.1.lie) })
pack (txt t ∷ vs) front =
    let p = pack vs (front ++ t) in
    let r = p.0 in
    let more : Packed (front ++ (t ++ r)) vs = rw append_assoc at p.1 in
    let at : take (length t) (drop (length front) (front ++ (t ++ r))) ≡ t = rw (drop_at front (t ++ r) (length front) refl, take_at t r (length t) refl) in
    let fits : length front + length t ≤ length (front ++ (t ++ r)) = omega (arith, length-append front (t ++ r), length-append t r) in
    (t ++ r, record { given = Text (length front) (length t) ∷ more.given; mean = rw (at, more.mean); lie = (le-leb (length front + length t) (length (front ++ (t ++ r))) fits, more.lie) })

hand : (e : Entry) → (h : Handed) × (meant h ≡ e) × Inside h
hand e =
    let p = pack e.values [] in
    (record { mark = e.mark; values = p.1.given; pool = p.0 }, ap (λ vs. record { mark = e.mark; values = vs }) p.1.mean, p.1.lie)

pub hand_all : (es : List Entry) → (hs : List Handed) × (map meant hs ≡ es) × AllByRecursion Inside hs
hand_all [] = ([], refl, tt)
hand_all (e ∷ es) =
    let h = hand e in
    let more = hand_all es in
    (h.0 ∷ more.0, rw (h.1, more.1), (h.2, more.2))
