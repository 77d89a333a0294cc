-- A client's OPTIMIZE among workers: why its steps are that of the statement.
use Rattle.std.proofs.Common.{◌≡◌, ◌≤◌, ◌<◌, inl, inr, ℕ, suc, ◌+◌, true, false, List, [], ◌∷◌, ◌++◌, length, take, drop, get_or, refl, sym, ap, subst, ◌∙◌}
use Rattle.std.specs.Prelude.{IsTrue, nat_eq, not}
use Rattle.std.proofs.lemmas.List.{take_all, take_more, set_split, set-get_or}
use Rattle.std.specs.declared.option.Option.{Option}
use Rattle.std.specs.declared.option.Option.TheVariants.{Some, None}
use Rattle.rmt_names.specs.Names.{Name}
use Rattle.rmt_entries.specs.declared.entry.Entry.{Entry}
use Rattle.rmt_model.specs.Words.{Has}
use Rattle.rmt_events.specs.Views.{Block}
use Rattle.rmt_reply.specs.declared.refusal.Refusal.{Refusal}
use Rattle.rmt_statement_model.specs.TableStates.{TableState, synced}
use Rattle.rmt_statement_model.specs.ActOutcomes.{SyncsOr}
use Rattle.rmt_statement_model.specs.Optimizes.{partitions_asked, OptimizesAll, OptimizesTable}
use Rattle.rmt_statement_model.proofs.OptimizeRows.{optimizes-more, optimizes-stop}
use Rattle.rmt_live_names.specs.declared.optimized.Optimized.{Optimized}
use Rattle.rmt_live_names.specs.declared.optimized.Optimized.TheVariants as optimized
use Rattle.rmt_clients.proofs.ClientRests.{changes-as}
use Rattle.rmt_pass.specs.MergeSteps.{OptimizesTo}
use Rattle.rmt_pass.specs.Passes.{PassView, TakesStep, client_at, up_in}
use Rattle.rmt_pass.proofs.CallerLemmas.{cant-later}
use Rattle.rmt_workers.specs.CrewInserts.{TakesInto}
use Rattle.rmt_workers.specs.CrewOptimizes.{OptimizesOne}
use Rattle.rmt_workers.proofs.StepLemmas.{keeps-both}

-- a list that isn't empty has an element
pub has-some : {A : Type 0} (xs ys : List A) (n : ℕ) → xs ≡ ys → n ≡ length xs → IsTrue (not (nat_eq n 0)) → (a : A) × Has ys a
has-some {A} xs ys n e l h = subst (λ (zs : List A). (a : A) × Has zs a) e (go xs (subst (λ (m : ℕ). IsTrue (not (nat_eq m 0))) l h))
  where
    go : (zs : List A) → IsTrue (not (nat_eq (length zs) 0)) → (a : A) × Has zs a
    go [] m = let h : false ≡ true = m in absurd (cc)
    go (z ∷ zs) m = (z, inl refl)

-- ---- one partition

module _ (O : ℕ → Block → Type 0) (old : PassView) (k r : ℕ) (p : Option ℕ) where
  -- it has one part, and the replica is brought up to date
  pub one-part : (mid new : PassView) (name : Name) (o : Optimized) → o ≡ optimized.Name name → TakesStep O old k (OptimizesTo p o) mid → TakesStep O mid k (λ t u. u ≡ synced r t) new → TakesInto O old k (OptimizesOne r p (optimized.Name name)) new
  one-part mid new name o e m s = record {
    steps = λ clear t fits.
        let x = (subst (λ (y : Optimized). TakesStep O old k (OptimizesTo p y) mid) e m).steps clear t fits in
        let y = s.steps clear x.comes.after x.comes.fits in
        record {
          after = y.comes.after;
          change = record { mid = y.at; optimizes = record { at = x.at; rests = x.rests; mid = x.comes.after; optimizes = x.comes.change; after = y.rests }; syncs = y.comes.change };
          fits = y.comes.fits;
        };
    keeps = keeps-both old mid new k m.keeps s.keeps;
    goes = s.goes;
  }

  -- or its parts can't be merged
  pub no-part : (new : PassView) (why : Refusal) (o : Optimized) → o ≡ optimized.Refused why → TakesStep O old k (OptimizesTo p o) new → TakesInto O old k (OptimizesOne r p (optimized.Refused why)) new
  no-part new why o e m = record {
    steps = λ clear t fits. cant-later (O k) (client_at new k) p why t ((subst (λ (y : Optimized). TakesStep O old k (OptimizesTo p y) new) e m).steps clear t fits);
    keeps = m.keeps;
    goes = m.goes;
  }

-- ---- one after the other

module _ (O : ℕ → Block → Type 0) (first mid new : PassView) (k r : ℕ) (all : List (Option ℕ)) (i : ℕ) (names out : List Name) (o : Optimized) (here : i < length all) (so_far : TakesInto O first k (λ t u. OptimizesAll true t r (take i all) names None u) mid) (one : TakesInto O mid k (OptimizesOne r (get_or all i None) o) new) where
  -- one more
  pub one-more : (name : Name) → o ≡ optimized.Name name → out ≡ names ++ name ∷ [] → TakesInto O first k (λ t u. OptimizesAll true t r (take (i + 1) all) out None u) new
  one-more name e g =
      subst (λ (ns : List Name). TakesInto O first k (λ t u. OptimizesAll true t r (take (i + 1) all) ns None u) new) (sym g)
      (subst (λ (ps : List (Option ℕ)). TakesInto O first k (λ t u. OptimizesAll true t r ps (names ++ name ∷ []) None u) new) (sym (take_more all i None here))
      (record {
        steps = λ clear t fits.
            let x = so_far.steps clear t fits in
            let y = (subst (λ (z : Optimized). TakesInto O mid k (OptimizesOne r (get_or all i None) z) new) e one).steps clear x.after x.fits in
            record {
              after = y.after;
              change = optimizes-more true t x.after y.change.mid y.after r (take i all) (get_or all i None) names name x.change y.change.optimizes y.change.syncs;
              fits = y.fits;
            };
        keeps = keeps-both first mid new k so_far.keeps one.keeps;
        goes = one.goes;
      }))

  -- it ends at one whose parts can't be merged
  pub ends-there : (why : Refusal) → o ≡ optimized.Refused why → out ≡ names → TakesInto O first k (λ t u. OptimizesAll true t r all out (Some why) u) new
  ends-there why e g =
      let split : take i all ++ get_or all i None ∷ drop (suc i) all ≡ all = sym (set_split all i (get_or all i None) here) ∙ set-get_or all i None in
      subst (λ (ns : List Name). TakesInto O first k (λ t u. OptimizesAll true t r all ns (Some why) u) new) (sym g)
      (subst (λ (ps : List (Option ℕ)). TakesInto O first k (λ t u. OptimizesAll true t r ps names (Some why) u) new) split
      (record {
        steps = λ clear t fits.
            let x = so_far.steps clear t fits in
            let y = (subst (λ (z : Optimized). TakesInto O mid k (OptimizesOne r (get_or all i None) z) new) e one).steps clear x.after x.fits in
            record {
              after = y.after;
              change = optimizes-stop true t x.after y.after r (take i all) (drop (suc i) all) (get_or all i None) names why x.change y.change;
              fits = y.fits;
            };
        keeps = keeps-both first mid new k so_far.keeps one.keeps;
        goes = one.goes;
      }))

-- or with the last
pub ends-all : (O : ℕ → Block → Type 0) (first new : PassView) (k r : ℕ) (all : List (Option ℕ)) (i : ℕ) (names out : List Name) → length all ≤ i → TakesInto O first k (λ t u. OptimizesAll true t r (take i all) names None u) new → out ≡ names → TakesInto O first k (λ t u. OptimizesAll true t r all out None u) new
ends-all O first new k r all i names out l f g =
    subst (λ (ns : List Name). TakesInto O first k (λ t u. OptimizesAll true t r all ns None u) new) (sym g)
    (subst (λ (ps : List (Option ℕ)). TakesInto O first k (λ t u. OptimizesAll true t r ps names None u) new) (take_all i all l) f)

-- ---- the table

-- the replica is brought up to date, and then the partitions are optimized that the client's log has
pub table-done : (O : ℕ → Block → Type 0) (old mid new : PassView) (k r : ℕ) (asked : Option (Option ℕ)) (all : List (Option ℕ)) (log : List Entry) (names : List Name) (refused : Option Refusal) → TakesStep O old k (λ t u. u ≡ synced r t) mid → all ≡ partitions_asked asked log → log ≡ (client_at mid k).log
    → TakesInto O mid k (λ t u. OptimizesAll true t r all names refused u) new → TakesStep O old k (λ t u. OptimizesTable true (up_in old.up) t r asked names refused u) new
table-done O old mid new k r asked all log names refused s e same f = record {
  steps = λ clear t fits.
      let x = s.steps clear t fits in
      let logs : log ≡ x.at.log = same ∙ (x.comes.fits.knows.log ∙ ap (λ (u : TableState). u.log) x.comes.change) in
      let y = f.steps clear x.comes.after x.comes.fits in
      record {
        at = x.at;
        rests = x.rests;
        comes = changes-as (O k) (client_at new k) (OptimizesAll true x.comes.after r all names refused) (OptimizesTable true (up_in old.up) x.at r asked names refused)
            (λ u h. inr (subst (λ (v : TableState). OptimizesAll true v r (partitions_asked asked x.at.log) names refused u) x.comes.change
            (subst (λ (ps : List (Option ℕ)). OptimizesAll true x.comes.after r ps names refused u) (e ∙ ap (partitions_asked asked) logs) h)))
            y;
      };
  keeps = keeps-both old mid new k s.keeps f.keeps;
  goes = f.goes;
}

-- what a replica that was brought up to date is
pub synced-so : (O : ℕ → Block → Type 0) (old mid : PassView) (k r : ℕ) (o : Option Refusal) → o ≡ None → TakesStep O old k (SyncsOr (up_in old.up) r o) mid → TakesStep O old k (λ t u. u ≡ synced r t) mid
synced-so O old mid k r o e = subst (λ (x : Option Refusal). TakesStep O old k (SyncsOr (up_in old.up) r x) mid → TakesStep O old k (λ t u. u ≡ synced r t) mid) (sym e) (λ s. s)
