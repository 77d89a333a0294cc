-- What a client's steps at a table come to, in the words of what executes acts.
use Rattle.std.proofs.Common.{◌≡◌, ◌≢◌, ◌<◌, ◌∙◌, inl, ℕ, true, List, [], ◌∷◌, length, set, refl, sym, ap, subst, arith}
use Rattle.std.proofs.lemmas.List.{get_or-set_other, length-set}
use Rattle.std.specs.Prelude.{IfOk, OnOk, OnErr}
use Rattle.std.specs.declared.option.Option.TheVariants.{Some}
use Rattle.std.specs.declared.result.Result.{Result}
use Rattle.std.specs.declared.result.Result.TheVariants.{Ok, Err}
use Rattle.rmt_values.specs.Rows.{Shape}
use Rattle.rmt_entries.specs.declared.entry.Entry.{Entry}
use Rattle.rmt_entries.specs.declared.entry.Entry.TheVariants.{Get, Merge, Mutate, Mutation, DropRange}
use Rattle.rmt_events.specs.Views.{Block}
use Rattle.rmt_events.specs.Clusters.{Accepted}
use Rattle.rmt_statement_model.specs.TableStates.{TableState, plain_rows}
use Rattle.rmt_statement_model.specs.Reads.{KnowsAll}
use Rattle.rmt_statement_model.specs.Rests.{Rests}
use Rattle.rmt_statement_model.proofs.RestLaws.{rests-then}
use Rattle.rmt_query.specs.Answers.{answer_of}
use Rattle.rmt_values.specs.declared.cell.Cell.{Cell}
use Rattle.rmt_values.specs.declared.checked_query.CheckedQuery.{CheckedQuery}
use Rattle.rmt_clients.specs.Clients.{Client, AreAccepted, AreClear, Fits}
use Rattle.rmt_known.specs.KnownTables.{Known, client_of, new_known}
use Rattle.rmt_shared.specs.SharedTables.{NamedTable}
use Rattle.rmt_pass.specs.Passes.{PassView, KeepsPass, TakesStep, client_at, known_at, no_schema, up_in}
use Rattle.rmt_acting.specs.Acting.{Brings, GoesOn, KeepsShape, Leaves, Stays}
use Rattle.rmt_threaded.specs.ThreadedTables.{ThreadedView, AnswersAt, ComesTo, IsThreaded, MayBe, client_in, seen_at}
use Rattle.rmt_threaded.proofs.RestedTables.{rested-answer, rested-marked}

-- ---- blocks that are offered

-- accepted blocks that are offered by one are so by another that offers these
accepted-as : (P Q : Block → Type 0) → ((b : Block) → P b → Q b) → (log : List Entry) (blocks : List Accepted) → AreAccepted P log blocks → AreAccepted Q log blocks
accepted-as P Q f [] [] a = tt
accepted-as P Q f [] (b ∷ blocks) a = absurd a
accepted-as P Q f (Get p n digest source need ∷ log) [] a = absurd a
accepted-as P Q f (Get p n digest source need ∷ log) (b ∷ blocks) a =
    (record { block = a.0.block; offered = f a.0.block a.0.offered; partition = a.0.partition; same_id = a.0.same_id; accepted = a.0.accepted }, accepted-as P Q f log blocks a.1)
accepted-as P Q f (Merge name sources count ∷ log) blocks a = accepted-as P Q f log blocks a
accepted-as P Q f (Mutate old name upto count mcount ∷ log) blocks a = accepted-as P Q f log blocks a
accepted-as P Q f (Mutation id numbers command ∷ log) blocks a = accepted-as P Q f log blocks a
accepted-as P Q f (DropRange p n ∷ log) blocks a = accepted-as P Q f log blocks a

fits-as : (P Q : Block → Type 0) → ((b : Block) → P b → Q b) → (p : Client) (t : TableState) → Fits P p t → Fits Q p t
fits-as P Q f p t h = record { knows = h.knows; blocks = accepted-as P Q f t.log t.blocks h.blocks }

clear-as : (P Q : Block → Type 0) → ((b : Block) → Q b → P b) → AreClear P → AreClear Q
clear-as P Q f clear b c x y = clear b c (f b x) (f c y)

-- ---- the view

-- a client's table at a place
abbrev pub at_place : ℕ → PassView → ThreadedView
at_place k p = record { table = k; pass = p }

-- the blocks of the table are those that are offered to a table of the schema that the client knows
offered-there : (Offers : Shape → Block → Type 0) (names : List NamedTable) (Offered : ℕ → Block → Type 0) (schema : Shape) (k : ℕ) (p : PassView) → IsThreaded Offers names Offered schema (at_place k p) → (b : Block) → Offered k b → Offers (client_at p k).schema b
offered-there Offers names Offered schema k p i b h = subst (λ (s : Shape). Offers s b) (sym i.named) ((i.offers k b).0 h)

pub offers-there : (Offers : Shape → Block → Type 0) (names : List NamedTable) (Offered : ℕ → Block → Type 0) (schema : Shape) (k : ℕ) (p : PassView) → IsThreaded Offers names Offered schema (at_place k p) → (b : Block) → Offers (client_at p k).schema b → Offered k b
offers-there Offers names Offered schema k p i b h = (i.offers k b).1 (subst (λ (s : Shape). Offers s b) i.named h)

-- ---- what stays

pub keeps-there : (p : PassView) (k : ℕ) (q : PassView) → KeepsPass p k q → k < length p.tables → k < length q.tables
keeps-there p k q s h =
    let a : length q.tables ≡ length (set p.tables k (known_at q k)) = ap (λ (x : PassView). length x.tables) s.rest in
    let b = length-set p.tables k (known_at q k) in
    omega (arith, a, b, h)

-- the client's table stays what it is
pub threaded-kept : (Offers : Shape → Block → Type 0) (names : List NamedTable) (Offered : ℕ → Block → Type 0) (schema : Shape) (k : ℕ) (p q : PassView) → IsThreaded Offers names Offered schema (at_place k p) → KeepsPass p k q → IsThreaded Offers names Offered schema (at_place k q)
threaded-kept Offers names Offered schema k p q i s = record {
  there = keeps-there p k q s i.there;
  schema = i.schema ∙ sym s.schema;
  named = s.schema ∙ i.named;
  offers = i.offers;
}

-- of the table at another place the client knows what it knew
others-kept : (p : PassView) (k : ℕ) (q : PassView) → KeepsPass p k q → (j : ℕ) → j ≢ k → known_at q j ≡ known_at p j
others-kept p k q s j n = ap (λ (x : PassView). known_at x j) s.rest ∙ get_or-set_other p.tables k j (known_at q k) (new_known no_schema 0) n

keeps-up : (p : PassView) (k : ℕ) (q : PassView) → KeepsPass p k q → q.up ≡ p.up
keeps-up p k q s = ap (λ (x : PassView). x.up) s.rest

pub keeps-shape : (Offers : Shape → Block → Type 0) (n k : ℕ) (p q : PassView) (v : ThreadedView) → at_place k p ≡ v → KeepsPass p k q → KeepsShape (seen_at Offers n v) (seen_at Offers n (at_place k q))
keeps-shape Offers n k p q v is s = subst (λ (w : ThreadedView). KeepsShape (seen_at Offers n w) (seen_at Offers n (at_place k q))) is (record {
  shape = s.schema;
  count = refl;
  place = refl;
  others = λ j d. ap (λ (x : Known). Some (client_of x)) (others-kept p k q s j d);
})

pub goes-on : (Offers : Shape → Block → Type 0) (n k : ℕ) (p q : PassView) (v : ThreadedView) → at_place k p ≡ v → KeepsPass p k q → GoesOn (seen_at Offers n v) (seen_at Offers n (at_place k q))
goes-on Offers n k p q v is s = subst (λ (w : ThreadedView). GoesOn (seen_at Offers n w) (seen_at Offers n (at_place k q))) is (record { free = tt; ups = ap up_in (keeps-up p k q s) })

pub goes-on-ok : {T E : Type 0} (r : Result T E) (Offers : Shape → Block → Type 0) (n k : ℕ) (p q : PassView) (v : ThreadedView) → at_place k p ≡ v → KeepsPass p k q → OnOk r (GoesOn (seen_at Offers n v) (seen_at Offers n (at_place k q)))
goes-on-ok (Ok x) Offers n k p q v is s = goes-on Offers n k p q v is s
goes-on-ok (Err e) Offers n k p q v is s = tt

pub leaves : (Offers : Shape → Block → Type 0) (n k : ℕ) (p q : PassView) (v : ThreadedView) → at_place k p ≡ v → KeepsPass p k q → Leaves (seen_at Offers n v) (seen_at Offers n (at_place k q))
leaves Offers n k p q v is s = subst (λ (w : ThreadedView). Leaves (seen_at Offers n w) (seen_at Offers n (at_place k q))) is (record { free = λ f. tt; ups = ap up_in (keeps-up p k q s); events = λ e. refl })

-- a call that takes a step, or fails
pub either-keeps : {T E : Type 0} (r : Result T E) (Offered : ℕ → Block → Type 0) (p : PassView) (k : ℕ) (Change : T → TableState → TableState → Type 0) (q : PassView) → IfOk r (λ x. TakesStep Offered p k (Change x) q) → OnErr r (KeepsPass p k q) → KeepsPass p k q
either-keeps (Ok x) Offered p k Change q f e = f.keeps
either-keeps (Err y) Offered p k Change q f e = e

pub either-keeps-done : {T E : Type 0} (r : Result T E) (Offered : ℕ → Block → Type 0) (p : PassView) (k : ℕ) (Change : TableState → TableState → Type 0) (q : PassView) → OnOk r (TakesStep Offered p k Change q) → OnErr r (KeepsPass p k q) → KeepsPass p k q
either-keeps-done (Ok x) Offered p k Change q f e = f.keeps
either-keeps-done (Err y) Offered p k Change q f e = e

-- ---- what changes

-- a step brings what is seen of the table to what is seen then
pub takes-brings : (Offers : Shape → Block → Type 0) (names : List NamedTable) (Offered : ℕ → Block → Type 0) (schema : Shape) (n k : ℕ) (p q : PassView) (v : ThreadedView) (Change : ThreadedView → TableState → TableState → Type 0)
    → at_place k p ≡ v → IsThreaded Offers names Offered schema (at_place k p) → TakesStep Offered p k (Change (at_place k p)) q → Brings (seen_at Offers n v) (Change v) (seen_at Offers n (at_place k q))
takes-brings Offers names Offered schema n k p q v Change is i s = subst (λ (w : ThreadedView). Brings (seen_at Offers n w) (Change w) (seen_at Offers n (at_place k q))) is brings
  where
    brings : Brings (seen_at Offers n (at_place k p)) (Change (at_place k p)) (seen_at Offers n (at_place k q))
    brings t h =
        let there = offered-there Offers names Offered schema k p i in
        let back = offers-there Offers names Offered schema k p i in
        let r = s.steps (clear-as (Offers (client_at p k).schema) (Offered k) there h.clear) h.now (fits-as (Offers (client_at p k).schema) (Offered k) back (client_at p k) h.now h.fits) in
        record {
          state = r.comes.after;
          holds = record { at = r.at; rests = rests-then true t h.now r.at h.rests r.rests; change = r.comes.change };
          shows = record {
            clear = subst (λ (c : Shape). AreClear (Offers c)) (sym s.keeps.schema) h.clear;
            now = r.comes.after;
            rests = inl refl;
            fits = fits-as (Offered k) (Offers (client_at q k).schema) (offered-there Offers names Offered schema k q (threaded-kept Offers names Offered schema k p q i s.keeps)) (client_at q k) r.comes.after r.comes.fits;
          };
        }

pub takes-brings-if : {T E : Type 0} (r : Result T E) (Offers : Shape → Block → Type 0) (names : List NamedTable) (Offered : ℕ → Block → Type 0) (schema : Shape) (n k : ℕ) (p q : PassView) (v : ThreadedView) (Change : T → ThreadedView → TableState → TableState → Type 0)
    → at_place k p ≡ v → IsThreaded Offers names Offered schema (at_place k p) → IfOk r (λ x. TakesStep Offered p k (Change x (at_place k p)) q) → IfOk r (λ x. Brings (seen_at Offers n v) (Change x v) (seen_at Offers n (at_place k q)))
takes-brings-if (Ok x) Offers names Offered schema n k p q v Change is i s = takes-brings Offers names Offered schema n k p q v (Change x) is i s
takes-brings-if (Err e) Offers names Offered schema n k p q v Change is i s = tt

pub takes-brings-ok : {T E : Type 0} (r : Result T E) (Offers : Shape → Block → Type 0) (names : List NamedTable) (Offered : ℕ → Block → Type 0) (schema : Shape) (n k : ℕ) (p q : PassView) (v : ThreadedView) (Change : ThreadedView → TableState → TableState → Type 0)
    → at_place k p ≡ v → IsThreaded Offers names Offered schema (at_place k p) → OnOk r (TakesStep Offered p k (Change (at_place k p)) q) → OnOk r (Brings (seen_at Offers n v) (Change v) (seen_at Offers n (at_place k q)))
takes-brings-ok (Ok x) Offers names Offered schema n k p q v Change is i s = takes-brings Offers names Offered schema n k p q v Change is i s
takes-brings-ok (Err e) Offers names Offered schema n k p q v Change is i s = tt

-- after a step that does nothing, each state that was shown is
takes-stays : (Offers : Shape → Block → Type 0) (names : List NamedTable) (Offered : ℕ → Block → Type 0) (schema : Shape) (n k : ℕ) (p q : PassView) (v : ThreadedView)
    → at_place k p ≡ v → IsThreaded Offers names Offered schema (at_place k p) → TakesStep Offered p k (λ t u. u ≡ t) q → Stays (seen_at Offers n v) (seen_at Offers n (at_place k q))
takes-stays Offers names Offered schema n k p q v is i s = subst (λ (w : ThreadedView). Stays (seen_at Offers n w) (seen_at Offers n (at_place k q))) is stays
  where
    stays : Stays (seen_at Offers n (at_place k p)) (seen_at Offers n (at_place k q))
    stays t h =
        let there = offered-there Offers names Offered schema k p i in
        let back = offers-there Offers names Offered schema k p i in
        let r = s.steps (clear-as (Offers (client_at p k).schema) (Offered k) there h.clear) h.now (fits-as (Offers (client_at p k).schema) (Offered k) back (client_at p k) h.now h.fits) in
        record {
          clear = subst (λ (c : Shape). AreClear (Offers c)) (sym s.keeps.schema) h.clear;
          now = r.comes.after;
          rests = rests-then true t h.now r.comes.after h.rests (subst (λ (x : TableState). Rests true h.now x) (sym r.comes.change) r.rests);
          fits = fits-as (Offered k) (Offers (client_at q k).schema) (offered-there Offers names Offered schema k q (threaded-kept Offers names Offered schema k p q i s.keeps)) (client_at q k) r.comes.after r.comes.fits;
        }

pub takes-stays-ok : {T E : Type 0} (r : Result T E) (Offers : Shape → Block → Type 0) (names : List NamedTable) (Offered : ℕ → Block → Type 0) (schema : Shape) (n k : ℕ) (p q : PassView) (v : ThreadedView)
    → at_place k p ≡ v → IsThreaded Offers names Offered schema (at_place k p) → OnOk r (TakesStep Offered p k (λ t u. u ≡ t) q) → OnOk r (Stays (seen_at Offers n v) (seen_at Offers n (at_place k q)))
takes-stays-ok (Ok x) Offers names Offered schema n k p q v is i s = takes-stays Offers names Offered schema n k p q v is i s
takes-stays-ok (Err e) Offers names Offered schema n k p q v is i s = tt

-- so does what changes in more than one step
comes-brings : (Offers : Shape → Block → Type 0) (names : List NamedTable) (Offered : ℕ → Block → Type 0) (schema : Shape) (n k : ℕ) (p q : PassView) (v : ThreadedView) (Change : ThreadedView → TableState → TableState → Type 0)
    → at_place k p ≡ v → IsThreaded Offers names Offered schema (at_place k p) → KeepsPass p k q → ComesTo (Offered k) (client_at p k) (Change (at_place k p)) (client_at q k) → Brings (seen_at Offers n v) (Change v) (seen_at Offers n (at_place k q))
comes-brings Offers names Offered schema n k p q v Change is i keeps s = subst (λ (w : ThreadedView). Brings (seen_at Offers n w) (Change w) (seen_at Offers n (at_place k q))) is brings
  where
    brings : Brings (seen_at Offers n (at_place k p)) (Change (at_place k p)) (seen_at Offers n (at_place k q))
    brings t h =
        let there = offered-there Offers names Offered schema k p i in
        let back = offers-there Offers names Offered schema k p i in
        let r = s (clear-as (Offers (client_at p k).schema) (Offered k) there h.clear) h.now (fits-as (Offers (client_at p k).schema) (Offered k) back (client_at p k) h.now h.fits) in
        record {
          state = r.after;
          holds = record { at = h.now; rests = h.rests; change = r.change };
          shows = record {
            clear = subst (λ (c : Shape). AreClear (Offers c)) (sym keeps.schema) h.clear;
            now = r.after;
            rests = inl refl;
            fits = fits-as (Offered k) (Offers (client_at q k).schema) (offered-there Offers names Offered schema k q (threaded-kept Offers names Offered schema k p q i keeps)) (client_at q k) r.after r.fits;
          };
        }

pub comes-brings-if : {T E : Type 0} (r : Result T E) (Offers : Shape → Block → Type 0) (names : List NamedTable) (Offered : ℕ → Block → Type 0) (schema : Shape) (n k : ℕ) (p q : PassView) (v : ThreadedView) (Change : T → ThreadedView → TableState → TableState → Type 0)
    → at_place k p ≡ v → IsThreaded Offers names Offered schema (at_place k p) → KeepsPass p k q → IfOk r (λ x. ComesTo (Offered k) (client_at p k) (Change x (at_place k p)) (client_at q k)) → IfOk r (λ x. Brings (seen_at Offers n v) (Change x v) (seen_at Offers n (at_place k q)))
comes-brings-if (Ok x) Offers names Offered schema n k p q v Change is i keeps s = comes-brings Offers names Offered schema n k p q v (Change x) is i keeps s
comes-brings-if (Err e) Offers names Offered schema n k p q v Change is i keeps s = tt

-- what a query answers, of each state that is shown
pub answers-shown : {T E : Type 0} (result : Result T E) (items : T → List (List Cell)) (Offers : Shape → Block → Type 0) (names : List NamedTable) (Offered : ℕ → Block → Type 0) (schema : Shape) (k r : ℕ) (p : PassView) (v : ThreadedView) (query : CheckedQuery)
    → at_place k p ≡ v → IsThreaded Offers names Offered schema (at_place k p) → IfOk result (λ x. AnswersAt (Offered k) (client_at p k) r query (items x))
    → IfOk result (λ x. (t : TableState) → MayBe Offers (client_in v) t → KnowsAll t r → items x ≡ answer_of t.schema query (plain_rows t))
answers-shown (Ok x) items Offers names Offered schema k r p v query is i a = λ t h knows.
    let m : MayBe Offers (client_at p k) t = subst (λ (w : ThreadedView). MayBe Offers (client_in w) t) (sym is) h in
    a (clear-as (Offers (client_at p k).schema) (Offered k) (offered-there Offers names Offered schema k p i) m.clear) m.now (fits-as (Offers (client_at p k).schema) (Offered k) (offers-there Offers names Offered schema k p i) (client_at p k) m.now m.fits) (rested-marked t m.now r m.rests knows)
    ∙ rested-answer t m.now query m.rests
answers-shown (Err e) items Offers names Offered schema k r p v query is i a = tt
