-- A new table in its tree.
use Rattle.std.proofs.Common.{◌≡◌, ℕ, zero, suc, ◌+◌, ◌<◌, ◌≤◌, true, false, List, [], refl, sym, ap, subst, arith, ◌∙◌, get_or}
use Rattle.std.proofs.lemmas.List.{length-replicate}
use Rattle.std.specs.Prelude.{replicate}
use Rattle.std.specs.FinSet as finset
use Rattle.std.specs.Ordering.{nat_cmp}
use Rattle.std.specs.declared.option.Option.{Option}
use Rattle.std.specs.declared.option.Option.TheVariants.{Some, None}
use Rattle.rmt_values.specs.Rows.{Shape}
use Rattle.rmt_entries.specs.declared.entry.Entry.{Entry}
use Rattle.rmt_tree.specs.Trees.{TreeView, is_open, empty_tree}
use Rattle.rmt_tree.specs.Ops.{after_all}
use Rattle.rmt_znodes.specs.ZnodeStates.{HasZnodes, Makes}
use Rattle.rmt_znodes.proofs.ZnodeStateLemmas.{makes-none}
use Rattle.rmt_table_model.specs.Tables.{IsOpen}
use Rattle.rmt_table_model.specs.Changes.{new_table}
use Rattle.rmt_table_model.specs.Steps.{Steps}
use Rattle.rmt_table_model.specs.Nodes.{expected, version_limits, IsTable, fixed_ops, replica_ops, replicas_ops, new_ops}
use Rattle.rmt_table_model.proofs.KeptNodes.{makes-append}
use Rattle.rmt_table_model.proofs.StartNodes.{fixed-makes, replica-makes, sound-new}
use Rattle.rmt_table_model.proofs.TableLemmas.{same-sessions}

replicas-make : (bytes : Entry → List ℕ) (schema : Shape) (t : TreeView) (r k n : ℕ) → n ≡ r + k → n < 4294967295 → HasZnodes t (expected bytes (new_table schema r)) (version_limits (new_table schema r))
    → Makes t (replicas_ops r k) (expected bytes (new_table schema n)) (version_limits (new_table schema n))
replicas-make bytes schema t r zero n e small m =
    let q : r ≡ n = omega (arith, e) in
    subst (λ (i : ℕ). Makes t [] (expected bytes (new_table schema i)) (version_limits (new_table schema i))) q (makes-none t (expected bytes (new_table schema r)) (version_limits (new_table schema r)) m)
replicas-make bytes schema t r (suc k) n e small m =
    makes-append t (replica_ops r) (replicas_ops (suc r) k) (expected bytes (new_table schema (suc r))) (expected bytes (new_table schema n)) (version_limits (new_table schema (suc r))) (version_limits (new_table schema n))
    (replica-makes bytes schema t r (omega (arith, e, small)) m)
    (λ w. replicas-make bytes schema (after_all t (replica_ops r)) (suc r) k n (omega (arith, e)) small w)

pub new-steps : (bytes : Entry → List ℕ) (schema : Shape) (count : ℕ) → count ≤ 8 → Steps bytes empty_tree (new_ops count) (new_table schema count)
new-steps bytes schema count few = record { makes = makes; table = table }
  where
    makes : Makes empty_tree (new_ops count) (expected bytes (new_table schema count)) (version_limits (new_table schema count))
    makes = makes-append empty_tree fixed_ops (replicas_ops 0 count) (expected bytes (new_table schema 0)) (expected bytes (new_table schema count)) (version_limits (new_table schema 0)) (version_limits (new_table schema count))
        (fixed-makes bytes schema) (replicas-make bytes schema (after_all empty_tree fixed_ops) 0 count count (omega arith) (omega (arith, few)))

    none : (k r : ℕ) → ◌≡◌ {A = Option ℕ} (get_or (replicate k None) r None) None
    none zero r = refl
    none (suc k) zero = refl
    none (suc k) (suc r) = none k r

    forth : (s : ℕ) → is_open (after_all empty_tree (new_ops count)) s ≡ true → IsOpen (replicate count None) s
    forth s o = let q : false ≡ true = sym (finset.contains-empty nat_cmp s) ∙ ap (λ (k : finset.FinSet nat_cmp). finset.contains k s) (sym (same-sessions empty_tree (new_ops count))) ∙ o in absurd (cc)

    back : (s : ℕ) → IsOpen (replicate count None) s → is_open (after_all empty_tree (new_ops count)) s ≡ true
    back s o = let q : ◌≡◌ {A = Option ℕ} None (Some s) = sym (none count o.0) ∙ o.1 in absurd (cc)

    table : IsTable bytes (after_all empty_tree (new_ops count)) (new_table schema count)
    table = record {
      tree = record { nodes = makes.nodes; sessions = λ s. (forth s, back s) };
      sound = sound-new schema count;
      same_many = length-replicate count 0 ∙ sym (length-replicate count None);
      few = let q = length-replicate {A = Option ℕ} count None in omega (arith, q, few);
    }
