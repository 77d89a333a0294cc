-- What a worker did, turn after turn.
use Rattle.std.proofs.Common.{◌≡◌, ℕ, zero, suc, ◌<◌, List, [], ◌∷◌, ◌++◌, length, refl, ap, ◌∙◌, arith}
use Rattle.std.specs.Prelude.{Result, Ok, ⊤, slice_index_or}
use Rattle.std.specs.declared.alloc.AllocError.{AllocError}
use Rattle.std.proofs.lemmas.List.Elements.{All-append}
use Rattle.rmt_tickets.specs.declared.ticket.Ticket.{Ticket}
use Rattle.rmt_tickets.specs.Tickets.{Place, moves, place, after, WorksWell}

append-none : (xs : List Ticket) → xs ≡ xs ++ []
append-none [] = refl
append-none (x ∷ xs) = ap (λ (l : List Ticket). x ∷ l) (append-none xs)

append-both : (xs ys zs : List Ticket) → (xs ++ ys) ++ zs ≡ xs ++ (ys ++ zs)
append-both [] ys zs = refl
append-both (x ∷ xs) ys zs = ap (λ (l : List Ticket). x ∷ l) (append-both xs ys zs)

after-none : (p : Place) → p ≡ after p []
after-none p =
    ap (λ (l : List Ticket). place (moves p.moves.parts l p.moves.taken) p.begun) (append-none p.moves.put)
    ∙ ap (λ (l : List Ticket). place (moves p.moves.parts (p.moves.put ++ []) l) p.begun) (append-none p.moves.taken)

after-both : (p : Place) (xs ys : List Ticket) → after (after p xs) ys ≡ after p (xs ++ ys)
after-both p xs ys =
    ap (λ (l : List Ticket). place (moves p.moves.parts l ((p.moves.taken ++ xs) ++ ys)) p.begun) (append-both p.moves.put xs ys)
    ∙ ap (λ (l : List Ticket). place (moves p.moves.parts (p.moves.put ++ (xs ++ ys)) l) p.begun) (append-both p.moves.taken xs ys)

-- nothing was taken yet
pub works-none : (answered : Ticket → Result ⊤ AllocError → Type 0) (p : Place) → WorksWell answered p p
works-none answered p = record { more = []; well = λ k d l. absurd (omega (arith, l)); change = after-none p }

-- one ticket more, whose work went well
pub works-more : (answered : Ticket → Result ⊤ AllocError → Type 0) (old mid : Place) (t : Ticket) → WorksWell answered old mid → answered t (Ok tt) → WorksWell answered old (after mid (t ∷ []))
works-more answered old mid t w a = record {
  more = w.more ++ t ∷ [];
  well = All-append (λ t. answered t (Ok tt)) w.more (t ∷ []) w.well (λ k d l. one k d a l);
  change = ap (λ (p : Place). after p (t ∷ [])) w.change ∙ after-both old w.more (t ∷ []);
}
  where
    one : (k : ℕ) (d : Ticket) → answered t (Ok tt) → k < length (t ∷ []) → answered (slice_index_or (t ∷ []) k d) (Ok tt)
    one zero d b l = b
    one (suc k) d b l = absurd (omega (arith, l))
