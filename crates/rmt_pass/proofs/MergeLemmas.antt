-- A client's merges of all live parts of a partition, and why they aren't merged.
use Rattle.std.proofs.Common.{◌≡◌, ℕ, ◌≤◌, inl, inr, false, List, [], ◌∷◌, length, refl, sym, ap, subst, arith, ◌∙◌}
use Rattle.std.specs.Prelude.{IfOk, IfSome, MatchOption}
use Rattle.std.specs.declared.option.Option.{Option}
use Rattle.std.specs.declared.option.Option.TheVariants.{Some, None}
use Rattle.std.specs.declared.result.Result.{Result}
use Rattle.std.specs.declared.result.Result.TheVariants.{Ok, Err}
use Rattle.std.specs.declared.alloc.AllocError.{AllocError}
use Rattle.rmt_values.specs.Rows.{Shape}
use Rattle.rmt_names.specs.Names.{Name}
use Rattle.rmt_entries.specs.declared.entry.Entry.{Entry}
use Rattle.rmt_entries.specs.declared.entry.Entry.TheVariants.{Merge}
use Rattle.rmt_model.specs.Words.{Has, Each}
use Rattle.rmt_model.specs.Lawful.{Lawful, AreNeighbours}
use Rattle.rmt_model.specs.Quorum.{Quorum}
use Rattle.rmt_model.specs.EntryLimits.{worker_limit}
use Rattle.rmt_events.specs.Views.{Block}
use Rattle.rmt_events.specs.Clusters.{Accepted}
use Rattle.rmt_events.specs.TableCalls.{AreQuiet}
use Rattle.rmt_events.specs.TableRefusals.{AreAlike, AreFirstToDiffer, AreFirstInQuorum, IsInFlight, NotMerged}
use Rattle.rmt_events.specs.LogEvents.{AreMergeable}
use Rattle.rmt_table_model.specs.Held.{Held}
use Rattle.rmt_table.specs.Causes.{merge_cause}
use Rattle.rmt_table.specs.TableTrees.{table_at}
use Rattle.rmt_table.specs.declared.merge_error.MergeError.{MergeError}
use Rattle.rmt_table.specs.declared.merge_error.MergeError.TheVariants as merge
use Rattle.rmt_reply.specs.declared.refusal.Refusal.{Refusal}
use Rattle.rmt_reply.specs.declared.refusal.Refusal.TheVariants.{LimitReached, Unmergeable}
use Rattle.rmt_statement_model.specs.TableStates.{TableState}
use Rattle.rmt_statement_model.specs.Optimizes.{live_of, CantOptimize}
use Rattle.rmt_statement_model.proofs.PartitionLaws.{live-neighbours, live-alike}
use Rattle.rmt_live_names.specs.declared.optimized.Optimized.{Optimized}
use Rattle.rmt_live_names.specs.declared.optimized.Optimized.TheVariants as optimized
use Rattle.rmt_clients.specs.Clients.{Client, KnowsTable, ChangesInto, StepsTo, known_table, seeing}
use Rattle.rmt_clients.proofs.ClientRests.{fits-all, knows-fits, knows-itself, steps-now}
use Rattle.rmt_clients.proofs.ClientOptimizes.{MergesHere, merged-here}
use Rattle.rmt_shared.specs.SharedTables.{GainsMerge}
use Rattle.rmt_pass.specs.Passes.{PassView, SeesAs, TakesStep, client_at}
use Rattle.rmt_pass.specs.MergeSteps.{IsLeftApart, OptimizesTo}
use Rattle.rmt_pass.proofs.OwnLemmas.{stays}

-- ---- the live names of a partition

-- they are two or more, where there is one and they aren't one alone
pub are-several : (names : List Name) (a : Name) → Has names a → (length names ≡ 1 → ⊥) → 2 ≤ length names
are-several [] a h n = absurd h
are-several (x ∷ []) a h n = absurd (n refl)
are-several (x ∷ y ∷ names) a h n = omega arith

-- they can be merged then
pub live-mergeable : (schema : Shape) (log : List Entry) (o : Option ℕ) (names : List Name) → names ≡ live_of log o → Lawful schema log → 2 ≤ length names → AreMergeable log names
live-mergeable schema log o names is l n =
    go names n (subst (λ (xs : List Name). AreNeighbours log xs) (sym is) (live-neighbours schema log o l)) (subst (λ (xs : List Name). Each (λ a. a.partition ≡ o) xs) (sym is) (live-alike log o))
  where
    go : (xs : List Name) → 2 ≤ length xs → AreNeighbours log xs → Each (λ a. a.partition ≡ o) xs → AreMergeable log xs
    go [] n b e = absurd (omega (arith, n))
    go (x ∷ []) n b e = absurd (omega (arith, n))
    go (x ∷ y ∷ xs) n b e = (b, subst (λ (q : Option ℕ). Each (λ a. a.partition ≡ q) (y ∷ xs)) (sym e.0) e.1)

-- ---- they are one

module _ (O : Block → Type 0) (m q : Client) (t u : Held) (o : Option ℕ) (s : SeesAs m t) (lawful : Lawful t.schema t.log) where
  merges-here : (names : List Name) → live_of m.log o ≡ names → 2 ≤ length names → (g : GainsMerge t names u) → q ≡ seeing (Merge g.name names g.count ∷ []) [] m → MergesHere m o g.name q
  merges-here [] e l g is = absurd (omega (arith, l))
  merges-here (a ∷ []) e l g is = absurd (omega (arith, l))
  merges-here (a ∷ b ∷ rest) e l g is = record {
    first = a;
    second = b;
    rest = rest;
    sources = e;
    count = g.count;
    quiet = subst (λ (x : Quorum). AreQuiet x.pending (a ∷ b ∷ rest)) (sym s.quorum) g.assigns.quiet;
    room = ap worker_limit s.log ∙ g.assigns.within;
    lawful = subst (λ (c : Shape). Lawful c (Merge g.name (a ∷ b ∷ rest) g.count ∷ m.log)) (sym s.schema)
        (subst (λ (x : List Entry). Lawful t.schema (Merge g.name (a ∷ b ∷ rest) g.count ∷ x)) (sym s.log) (lawful, g.assigns.meets));
    after = subst (λ (x : Client). KnowsTable x (known_table (seeing (Merge g.name (a ∷ b ∷ rest) g.count ∷ []) [] m))) (sym is) (knows-itself (seeing (Merge g.name (a ∷ b ∷ rest) g.count ∷ []) [] m));
  }

  -- all of them were merged
  pub merge-steps : (name : Name) → 2 ≤ length (live_of m.log o) → (g : GainsMerge t (live_of m.log o) u) → q ≡ seeing (Merge g.name (live_of m.log o) g.count ∷ []) [] m → name ≡ g.name → StepsTo O m (OptimizesTo o (optimized.Name name)) q
  merge-steps name l g is e =
      subst (λ (n : Name). StepsTo O m (OptimizesTo o (optimized.Name n)) q) (sym e)
      (λ clear. steps-now O m q (OptimizesTo o (optimized.Name g.name)) (merged-here O m o g.name q (merges-here (live_of m.log o) refl l g is)))

-- ---- they aren't

-- why they aren't is nothing of the accepted blocks
cant-with : (t : TableState) (blocks : List Accepted) (o : Option ℕ) (why : Refusal) → CantOptimize t o why → CantOptimize (record t { blocks = blocks }) o why
cant-with t blocks o (Unmergeable left right) c = c
cant-with t blocks o (LimitReached limit value) c = c
cant-with t blocks o why c = absurd c

cant-steps : (O : Block → Type 0) (m : Client) (o : Option ℕ) (why : Refusal) → CantOptimize (known_table m) o why → StepsTo O m (OptimizesTo o (optimized.Refused why)) m
cant-steps O m o why c clear =
    steps-now O m m (OptimizesTo o (optimized.Refused why))
    (fits-all O m (λ (at : TableState). ChangesInto O m (OptimizesTo o (optimized.Refused why) at)) (λ blocks a. record {
      after = record (known_table m) { blocks = blocks };
      change = (refl, cant-with (known_table m) blocks o why c);
      fits = knows-fits O m (known_table m) blocks (knows-itself m) a;
    }))

module _ (O : Block → Type 0) (m : Client) (t : Held) (o : Option ℕ) (s : SeesAs m t) (names : List Name) (are : names ≡ live_of m.log o) where
  -- what is said of the table's log, the part that waits for its quorum and the names is said of the client's
  names-seen : (C : List Entry → Quorum → List Name → Type 0) → C t.log t.quorum names → C m.log m.quorum (live_of m.log o)
  names-seen C c = subst (λ (x : Quorum). C m.log x (live_of m.log o)) (sym s.quorum) (subst (λ (l : List Entry). C l t.quorum (live_of m.log o)) (sym s.log) (subst (λ (xs : List Name). C t.log t.quorum xs) are c))

  -- the client's step is the refusal, or there is none
  pub apart-steps : (error : MergeError) (len : ℕ) (r : Result (Option Optimized) AllocError) (P : Type 0) → P → IfSome (merge_cause error) (λ why. 2 ≤ length names) → IfSome (merge_cause error) (NotMerged (table_at t) len names) → IsLeftApart error r → IfOk r (λ merged. MatchOption merged P (λ x. StepsTo O m (OptimizesTo o x) m))
  apart-steps (merge.LogMoved seen found) len r P y two h e = absurd e
  apart-steps (merge.Differ left right) len r P y two h e = subst (λ (x : Result (Option Optimized) AllocError). IfOk x (λ merged. MatchOption merged P (λ z. StepsTo O m (OptimizesTo o z) m))) (sym e)
      (cant-steps O m o (Unmergeable left right) (inl (names-seen (λ l x xs. AreFirstToDiffer l x.pending xs left right) h.1)))
  apart-steps (merge.InQuorum left right part) len r P y two h e = subst (λ (x : Result (Option Optimized) AllocError). IfOk x (λ merged. MatchOption merged P (λ z. StepsTo O m (OptimizesTo o z) m))) (sym e)
      (cant-steps O m o (Unmergeable left right) (inr (part, names-seen (λ l x xs. AreFirstInQuorum l x.pending xs left right part) h.1)))
  apart-steps (merge.InFlight number) len r P y two h e = subst (λ (x : Result (Option Optimized) AllocError). IfOk x (λ merged. MatchOption merged P (λ z. StepsTo O m (OptimizesTo o z) m))) (sym e) y
  apart-steps (merge.LimitReached limit value) len r P y two h e = subst (λ (x : Result (Option Optimized) AllocError). IfOk x (λ merged. MatchOption merged P (λ z. StepsTo O m (OptimizesTo o z) m))) (sym e)
      (cant-steps O m o (LimitReached limit value) (
        names-seen (λ l x xs. 2 ≤ length xs) two,
        names-seen (λ l x xs. AreAlike l x.pending xs) h.1,
        names-seen (λ l x xs. worker_limit l ≡ Some (limit, value)) h.3,
      ))
  apart-steps merge.Memory len r P y two h e = subst (λ (x : Result (Option Optimized) AllocError). IfOk x (λ merged. MatchOption merged P (λ z. StepsTo O m (OptimizesTo o z) m))) (sym e) tt

  -- there is none where an insert under way holds a number among theirs
  pub held-up : (error : MergeError) (len : ℕ) (r : Result (Option Optimized) AllocError) (P : Type 0) → ((n : ℕ) → IsInFlight (table_at t) (live_of t.log o) n → P) → IfSome (merge_cause error) (NotMerged (table_at t) len names) → IsLeftApart error r → IfOk r (λ merged. (merged ≡ None) → P)
  held-up (merge.LogMoved seen found) len r P y h e = absurd e
  held-up (merge.Differ left right) len r P y h e = subst (λ (x : Result (Option Optimized) AllocError). IfOk x (λ merged. (merged ≡ None) → P)) (sym e) (λ f. absurd (cc))
  held-up (merge.InQuorum left right part) len r P y h e = subst (λ (x : Result (Option Optimized) AllocError). IfOk x (λ merged. (merged ≡ None) → P)) (sym e) (λ f. absurd (cc))
  held-up (merge.InFlight number) len r P y h e = subst (λ (x : Result (Option Optimized) AllocError). IfOk x (λ merged. (merged ≡ None) → P)) (sym e)
      (λ f. y number (subst (λ (xs : List Name). IsInFlight (table_at t) xs number) (are ∙ ap (λ (l : List Entry). live_of l o) s.log) h.2))
  held-up (merge.LimitReached limit value) len r P y h e = subst (λ (x : Result (Option Optimized) AllocError). IfOk x (λ merged. (merged ≡ None) → P)) (sym e) (λ f. absurd (cc))
  held-up merge.Memory len r P y h e = subst (λ (x : Result (Option Optimized) AllocError). IfOk x (λ merged. (merged ≡ None) → P)) (sym e) tt

-- so it is a step of the pass
pub apart-takes : (Offered : ℕ → Block → Type 0) (p : PassView) (k : ℕ) (o : Option ℕ) (r : Result (Option Optimized) AllocError) → p.gave_up ≡ false → IfOk r (λ merged. MatchOption merged (p ≡ p) (λ x. StepsTo (Offered k) (client_at p k) (OptimizesTo o x) (client_at p k))) → IfOk r (λ merged. MatchOption merged (p ≡ p) (λ x. TakesStep Offered p k (OptimizesTo o x) p))
apart-takes Offered p k o (Ok (Some x)) goes h = stays Offered p k (OptimizesTo o x) goes h
apart-takes Offered p k o (Ok None) goes h = h
apart-takes Offered p k o (Err e) goes h = tt
