-- A new table in its tree, and as it is shown.
use Rattle.std.proofs.Common.{◌≡◌, ℕ, zero, suc, ◌+◌, ◌-◌, ◌≤◌, List, [], ◌++◌, length, refl, sym, ap, subst, arith, ◌∙◌}
use Rattle.std.specs.Prelude.{replicate, take}
use Rattle.std.specs.declared.option.Option.{Option}
use Rattle.std.specs.declared.option.Option.TheVariants.{None}
use Rattle.rmt_values.specs.Rows.{Shape}
use Rattle.rmt_row.specs.Token.{Token}
use Rattle.rmt_model.specs.Quorum.{Quorum}
use Rattle.rmt_entries.specs.declared.entry.Entry.{Entry}
use Rattle.rmt_entries.specs.EntryBytes.{entry_bytes}
use Rattle.rmt_history.specs.Copies.{entries}
use Rattle.rmt_tree.specs.Trees.{TreeView, empty_tree}
use Rattle.rmt_tree.specs.Ops.{after_all, first_refusal}
use Rattle.rmt_tree.specs.declared.op.Op.{Op}
use Rattle.rmt_events.specs.Starts as starts
use Rattle.rmt_table_model.specs.Changes.{new_table}
use Rattle.rmt_table_model.specs.Held.{Held}
use Rattle.rmt_table_model.specs.Nodes.{IsTable, new_ops}
use Rattle.rmt_table_model.specs.Numbers.{Nexts}
use Rattle.rmt_znodes.specs.ZnodeStates.{Makes}
use Rattle.rmt_table_model.specs.Steps.{Steps}
use Rattle.rmt_table_model.proofs.HeldLemmas.{held-table, held-held}
use Rattle.rmt_table_model.proofs.NewLemmas.{new-steps}
use Rattle.rmt_table.specs.SeenTable.{opened_from, shown}
use Rattle.rmt_table_model.specs.Kept.{Placed}
use Rattle.rmt_table.specs.TableTrees.{table_at, Counts, IsTableTree}

-- what is kept of a new table, in this tree
abbrev pub new_held : Shape → List ℕ → ℕ → TreeView → Held
new_held schema row count t = record { schema = schema; row = row; log = []; next = []; sessions = replicate count None; pulled = replicate count 0; quorum = record { pending = None; last = None }; values = 0; tree = t }

abbrev pub no_counts : ℕ → List Placed → Counts
no_counts blocks window = record { clients = 0; workers = 0; mutations = 0; blocks = blocks; window = window }

-- an empty list that has grown to a length
pub resized : {A : Type 0} (xs ys : List A) (n k m : ℕ) (a : A) → ys ≡ [] → k ≡ 0 → n ≡ m → xs ≡ take n ys ++ replicate (n - k) a → xs ≡ replicate m a
resized {A} xs ys n k m a e z q f =
    let w : n - k ≡ m = omega (arith, q, z) in
    f ∙ ap (λ (l : List A). take n l ++ replicate (n - k) a) e ∙ ap (λ (l : List A). l ++ replicate (n - k) a) (nothing n) ∙ ap (λ (i : ℕ). replicate i a) w
  where
    nothing : (i : ℕ) → ◌≡◌ {A = List A} (take i []) []
    nothing zero = refl
    nothing (suc i) = refl

none-opened : (count k : ℕ) → opened_from k (replicate count None) ≡ []
none-opened zero k = refl
none-opened (suc count) k = none-opened count (k + 1)

pub new-fine : (schema : Shape) (count : ℕ) → count ≤ 8 → (ops : List Op) → ops ≡ new_ops count → (empty : TreeView) → empty ≡ empty_tree → first_refusal empty ops 0 ≡ None
new-fine schema count few ops ops-are empty is-empty =
    subst (λ (u : TreeView). first_refusal u ops 0 ≡ None) (sym is-empty) (subst (λ (xs : List Op). first_refusal empty_tree xs 0 ≡ None) (sym ops-are) (Makes.none_refused (Steps.makes (new-steps entry_bytes schema count few)) 0))

module _ (schema : Shape) (count : ℕ) (few : count ≤ 8) (t : TreeView) (ops : List Op) (ops-are : ops ≡ new_ops count) (empty : TreeView) (is-empty : empty ≡ empty_tree) (done : t ≡ after_all empty ops) where
  pub new-tree : t ≡ after_all empty_tree (new_ops count)
  new-tree = done ∙ ap (after_all empty) ops-are ∙ ap (λ (u : TreeView). after_all u (new_ops count)) is-empty

  new-stepped : IsTable entry_bytes t (new_table schema count)
  new-stepped = subst (λ (u : TreeView). IsTable entry_bytes u (new_table schema count)) (sym new-tree) (Steps.table (new-steps entry_bytes schema count few))

  module _ (row : List ℕ) (cells : length row ≡ 65536) (tokens : List (Token Entry)) (next : Nexts) (sessions : List (Option ℕ)) (pulled : List ℕ) (no-tokens : tokens ≡ []) (no-next : next ≡ []) (sessions-are : sessions ≡ replicate count None) (pulled-are : pulled ≡ replicate count 0) where
    new-same : ◌≡◌ {A = Held} (new_held schema row count t) (record { schema = schema; row = row; log = entries tokens; next = next; sessions = sessions; pulled = pulled; quorum = record { pending = None; last = None }; values = 0; tree = t })
    new-same =
        ap (λ (xs : List (Token Entry)). record (new_held schema row count t) { log = entries xs }) (sym no-tokens)
        ∙ ap (λ (xs : Nexts). record (new_held schema row count t) { log = entries tokens; next = xs }) (sym no-next)
        ∙ ap (λ (xs : List (Option ℕ)). record (new_held schema row count t) { log = entries tokens; next = next; sessions = xs }) (sym sessions-are)
        ∙ ap (λ (xs : List ℕ). record (new_held schema row count t) { log = entries tokens; next = next; sessions = sessions; pulled = xs }) (sym pulled-are)

    new-none : IsTableTree (new_held schema row count t) [] (no_counts 0 [])
    new-none = record {
      held = held-held entry_bytes (new_held schema row count t) (new_table schema count) new-stepped refl;
      counted = record { clients = refl; workers = refl; mutations = refl; blocks = refl; window = refl };
      places = record { cells = cells; each = λ i x e. absurd (cc) };
    }

    abbrev new_table_held : Quorum → Held
    new_table_held q = record { schema = schema; row = row; log = entries tokens; next = next; sessions = sessions; pulled = pulled; quorum = q; values = 0; tree = t }

    pub new-kept : (quorum : Quorum) → quorum ≡ record { pending = None; last = None } → (blocks : ℕ) → blocks ≡ 0 → (window : List Placed) → window ≡ [] → IsTableTree (record { schema = schema; row = row; log = entries tokens; next = next; sessions = sessions; pulled = pulled; quorum = quorum; values = 0; tree = t }) tokens (no_counts blocks window)
    new-kept quorum no-quorum blocks no-blocks window no-window =
        subst (λ (q : Quorum). IsTableTree (new_table_held q) tokens (no_counts blocks window)) (sym no-quorum)
        (subst (λ (n : ℕ). IsTableTree (new_table_held (record { pending = None; last = None })) tokens (no_counts n window)) (sym no-blocks)
        (subst (λ (ks : List Placed). IsTableTree (new_table_held (record { pending = None; last = None })) tokens (no_counts 0 ks)) (sym no-window)
        (subst (λ (h : Held). IsTableTree h tokens (no_counts 0 [])) new-same (subst (λ (xs : List (Token Entry)). IsTableTree (new_held schema row count t) xs (no_counts 0 [])) (sym no-tokens) new-none))))

    pub new-shown : (quorum : Quorum) → quorum ≡ record { pending = None; last = None } → table_at (record { schema = schema; row = row; log = entries tokens; next = next; sessions = sessions; pulled = pulled; quorum = quorum; values = 0; tree = t }) ≡ starts.new_table schema []
    new-shown quorum no-quorum =
        ap (λ (q : Quorum). table_at (record { schema = schema; row = row; log = entries tokens; next = next; sessions = sessions; pulled = pulled; quorum = q; values = 0; tree = t })) no-quorum
        ∙ ap table_at (sym new-same)
        ∙ ap shown (held-table entry_bytes (new_held schema row count t) (new_table schema count) new-stepped refl)
        ∙ ap (λ (xs : List ℕ). starts.new_table schema xs) (none-opened count 1)
