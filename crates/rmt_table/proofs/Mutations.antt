-- A mutation that is appended to a table's log.
use Rattle.std.proofs.Common.{◌≡◌, ℕ, zero, suc, ◌+◌, ◌<◌, ◌≤◌, ◌^◌, true, false, List, [], ◌∷◌, ◌++◌, length, take, get_or, refl, sym, ap, subst, arith, ◌∙◌, append_assoc}
use Rattle.std.specs.Fmt.{decimal}
use Rattle.std.specs.declared.option.Option.{Option}
use Rattle.std.specs.declared.option.Option.TheVariants.{Some, None}
use Rattle.rmt_values.specs.declared.checked_mutation.CheckedMutation.{CheckedMutation}
use Rattle.rmt_values.specs.Commands.{CommandFits}
use Rattle.rmt_values.specs.declared.limit.Limit.TheVariants as limits
use Rattle.rmt_row.specs.Token.{Token}
use Rattle.rmt_entries.specs.declared.entry.Entry.{Entry}
use Rattle.rmt_entries.specs.declared.entry.Entry.TheVariants.{Mutation}
use Rattle.rmt_entries.specs.EntryBytes.{entry_bytes, EntryInRange, CommandInRange}
use Rattle.rmt_model.specs.Words.{Each}
use Rattle.rmt_model.specs.Lawful.{mutation_count}
use Rattle.rmt_model.proofs.Lists.{Each-all}
use Rattle.rmt_model.specs.EntryLimits.{mutation_limit}
use Rattle.rmt_model.specs.BlockNumbers.{next_numbers_after}
use Rattle.rmt_tree.specs.Trees.{TreeView}
use Rattle.rmt_tree.specs.Ops.{after_all, first_refusal}
use Rattle.rmt_tree.specs.declared.op.Op.{Op}
use Rattle.rmt_tree.specs.declared.op.Op.TheVariants as op
use Rattle.rmt_znodes.specs.declared.znode.Znode.TheVariants.{MutationNode}
use Rattle.rmt_znodes.specs.Znodes.{znode_path, entry_path}
use Rattle.rmt_events.specs.TableCalls.{CreatesMutation}
use Rattle.rmt_partitions.specs.NumbersInOrder.{first_at}
use Rattle.rmt_table_model.specs.Numbers.{Nexts}
use Rattle.rmt_table_model.specs.Tables.{TableView}
use Rattle.rmt_table_model.specs.Changes.{MayMutate, after_mutation}
use Rattle.rmt_table_model.specs.Nodes.{IsTable, number_ops, numbers_ops, mutation_ops}
use Rattle.rmt_table_model.specs.Held.{Held, table_of}
use Rattle.rmt_znodes.specs.ZnodeStates.{Makes}
use Rattle.rmt_table_model.specs.Steps.{Steps}
use Rattle.rmt_table_model.proofs.TableLemmas.{mutation-steps}
use Rattle.rmt_table_model.proofs.HeldLemmas.{held-table, held-held}
use Rattle.rmt_table.specs.SeenTable.{shown}
use Rattle.rmt_table.proofs.CallBridge.{mutation-bridge}
use Rattle.rmt_table.specs.TableTrees.{table_at, Counts, ArePlaced, IsTableTree}
use Rattle.rmt_table.specs.declared.change_error.ChangeError.{ChangeError}
use Rattle.rmt_table.proofs.SoundRanges.{mutation-range}
use Rattle.rmt_table.proofs.Appended.{clients-next, workers-next, mutations-next, blocks-next}
use Rattle.rmt_table.proofs.ChangeLimits.{limit_error, no-error, clients-met, clients-free, mutation-number, mutation-clients, mutation-free}

-- the ops behind those of the numbers
abbrev entry_tail : CheckedMutation → ℕ → Nexts → ℕ → List Op
entry_tail command id numbers place =
    op.Create (znode_path (MutationNode id)) (decimal place) false None ∷ op.Create entry_path (entry_bytes (Mutation id numbers command)) true None ∷ []

-- the ops of one more partition
pub numbers-more : (xs : Nexts) (i : ℕ) (d : Option ℕ × ℕ) → i < length xs → numbers_ops (take (i + 1) xs) ≡ numbers_ops (take i xs) ++ number_ops (get_or xs i d).0 (get_or xs i d).1
numbers-more [] i d l = absurd (omega (arith, l))
numbers-more (x ∷ xs) zero d l = refl
numbers-more (x ∷ xs) (suc i) d l = ap (λ (k : ℕ). numbers_ops (take k (x ∷ xs))) (let e : suc i + 1 ≡ suc (i + 1) = omega arith in e) ∙ ap (λ (ops : List Op). number_ops x.0 x.1 ++ ops) (numbers-more xs i d (omega (arith, l)))

pub numbers-all : (xs : Nexts) (i : ℕ) → length xs ≤ i → numbers_ops (take i xs) ≡ numbers_ops xs
numbers-all [] zero l = refl
numbers-all [] (suc i) l = refl
numbers-all (x ∷ xs) zero l = absurd (omega (arith, l))
numbers-all (x ∷ xs) (suc i) l = ap (λ (ops : List Op). number_ops x.0 x.1 ++ ops) (numbers-all xs i (omega (arith, l)))

-- two ops more
pub two-more : (xs ys zs : List Op) (a b c d : Op) → ys ≡ xs ++ a ∷ [] → zs ≡ ys ++ b ∷ [] → a ≡ c → b ≡ d → zs ≡ xs ++ (c ∷ d ∷ [])
two-more xs ys zs a b c d e f g i =
    f ∙ ap (λ (ops : List Op). ops ++ b ∷ []) e ∙ append_assoc xs (a ∷ []) (b ∷ []) ∙ ap (λ (o : Op). xs ++ (o ∷ b ∷ [])) g ∙ ap (λ (o : Op). xs ++ (c ∷ o ∷ [])) i

-- why a mutation is refused
module _ (h : Held) (tokens : List (Token Entry)) (counts : Counts) (is : IsTableTree h tokens counts) (now : Held) (same : h ≡ now) (few : counts.mutations < 1024) where
  fewer : mutation_count h.log < 1024
  fewer = let e = is.counted.mutations in omega (arith, e, few)

  pub refused-number : (n : ℕ) → first_at 65536 h.next ≡ Some n → mutation_limit now.next now.log ≡ Some (limits.Numbers, n)
  refused-number n e = ap (λ (k : Held). mutation_limit k.next k.log) (sym same) ∙ mutation-number h.next h.log n fewer e

  pub refused-clients : first_at 65536 h.next ≡ None → 32768 ≤ counts.clients → mutation_limit now.next now.log ≡ Some (limits.ClientEntries, counts.clients)
  refused-clients e l =
      ap (λ (k : Held). mutation_limit k.next k.log) (sym same) ∙ mutation-clients h.next h.log fewer e
      ∙ clients-met h.log (let c = is.counted.clients in omega (arith, c, l))
      ∙ ap (λ (n : ℕ). Some (limits.ClientEntries, n)) (sym is.counted.clients)

  pub refused-not : first_at 65536 h.next ≡ None → counts.clients < 32768 → mutation_limit now.next now.log ≡ None
  refused-not e l =
      ap (λ (k : Held). mutation_limit k.next k.log) (sym same) ∙ mutation-clients h.next h.log fewer e
      ∙ clients-free h.log (let c = is.counted.clients in omega (arith, c, l))

module _ (h : Held) (tokens : List (Token Entry)) (counts : Counts) (is : IsTableTree h tokens counts) (now : Held) (same : h ≡ now) (command : CheckedMutation) (fits : CommandFits now.schema command) (range : CommandInRange command)
    (refusal : Option ChangeError) (refusal-is : refusal ≡ limit_error (mutation_limit now.next now.log)) (none : refusal ≡ None) where
  free : mutation_limit h.next h.log ≡ None
  free = no-error (mutation_limit h.next h.log) (ap (λ (k : Held). limit_error (mutation_limit k.next k.log)) same ∙ sym refusal-is ∙ none)

  may : MayMutate command (table_of h)
  may =
      let f = mutation-free h.next h.log free in
      record { fits = subst (λ (k : Held). CommandFits k.schema command) (sym same) fits; mutations = f.0; numbers = f.1; client_entries = f.2 }

  pub mutation-few : counts.clients < 32768
  mutation-few = let c = is.counted.clients in let l = may.client_entries in omega (arith, c, l)

  pub mutation-entry : (id : ℕ) (numbers : Nexts) → id ≡ counts.mutations → numbers ≡ h.next → EntryInRange (Mutation id numbers command)
  mutation-entry id numbers i n =
      let at = i ∙ is.counted.mutations in
      subst (λ (j : ℕ). EntryInRange (Mutation j numbers command)) (sym at)
      (subst (λ (ns : Nexts). EntryInRange (Mutation (mutation_count h.log) ns command)) (sym n) (mutation-range (table_of h) is.held.sound command range))

  pub mutation-small : (numbers : Nexts) → numbers ≡ h.next → Each (λ x. x.1 + 1 < 2 ^ 32) numbers
  mutation-small numbers n = subst (Each (λ x. x.1 + 1 < 2 ^ 32)) (sym n) (Each-all (λ x. x.1 + 1 < 2 ^ 32) h.next (λ x i. let l = may.numbers x.0 x.1 i in omega (arith, l)))

  pub mutation-ops : (id place : ℕ) (numbers slice : Nexts) (first ops : List Op) → id ≡ counts.mutations → place ≡ length now.log → numbers ≡ h.next → slice ≡ numbers → first ≡ numbers_ops slice
      → ops ≡ first ++ entry_tail command id numbers place → ops ≡ mutation_ops entry_bytes command (table_of h)
  mutation-ops id place numbers slice first ops i p n s f o =
      o
      ∙ ap (λ (xs : List Op). xs ++ entry_tail command id numbers place) (f ∙ ap numbers_ops (s ∙ n))
      ∙ ap (λ (j : ℕ). numbers_ops h.next ++ entry_tail command j numbers place) (i ∙ is.counted.mutations)
      ∙ ap (λ (ns : Nexts). numbers_ops h.next ++ entry_tail command (mutation_count h.log) ns place) n
      ∙ ap (λ (k : ℕ). numbers_ops h.next ++ entry_tail command (mutation_count h.log) h.next k) (p ∙ ap (λ (k : Held). length k.log) (sym same))

  pub mutation-fine : (ops : List Op) → ops ≡ mutation_ops entry_bytes command (table_of h) → first_refusal h.tree ops 0 ≡ None
  mutation-fine ops e = subst (λ (xs : List Op). first_refusal h.tree xs 0 ≡ None) (sym e) (Makes.none_refused (Steps.makes (mutation-steps entry_bytes h.tree (table_of h) is.held command may)) 0)

  module _ (t : TreeView) (ops : List Op) (ops-are : ops ≡ mutation_ops entry_bytes command (table_of h)) (t-is : t ≡ after_all h.tree ops)
      (log : List Entry) (log-is : log ≡ Mutation (mutation_count h.log) h.next command ∷ h.log) (next : Nexts) (next-is : next ≡ next_numbers_after h.next) where
    abbrev new : Held
    new = record h { log = Mutation (mutation_count h.log) h.next command ∷ h.log; next = next_numbers_after h.next; tree = t }

    new-is : record h { log = log; next = next; tree = t } ≡ new
    new-is = ap (λ (l : List Entry). record h { log = l; next = next; tree = t }) log-is ∙ ap (λ (ns : Nexts). record h { log = Mutation (mutation_count h.log) h.next command ∷ h.log; next = ns; tree = t }) next-is

    stepped : IsTable entry_bytes t (after_mutation command (table_of h))
    stepped = subst (λ (u : TreeView). IsTable entry_bytes u (after_mutation command (table_of h))) (sym (t-is ∙ ap (after_all h.tree) ops-are)) (Steps.table (mutation-steps entry_bytes h.tree (table_of h) is.held command may))

    pub mutation-kept : (all : List (Token Entry)) → ArePlaced h.row all → IsTableTree (record h { log = log; next = next; tree = t }) all (record { clients = counts.clients + 1; workers = counts.workers; mutations = counts.mutations + 1; blocks = counts.blocks; window = counts.window })
    mutation-kept all placed = subst (λ (k : Held). IsTableTree k all (record { clients = counts.clients + 1; workers = counts.workers; mutations = counts.mutations + 1; blocks = counts.blocks; window = counts.window })) (sym new-is)
        (record {
          held = held-held entry_bytes new (after_mutation command (table_of h)) stepped refl;
          counted = record {
            clients = let a = clients-next (Mutation (mutation_count h.log) h.next command) h.log in let b = is.counted.clients in omega (arith, a, b);
            workers = let a = workers-next (Mutation (mutation_count h.log) h.next command) h.log in let b = is.counted.workers in omega (arith, a, b);
            mutations = let a = mutations-next (Mutation (mutation_count h.log) h.next command) h.log in let b = is.counted.mutations in omega (arith, a, b);
            blocks = let a = blocks-next (Mutation (mutation_count h.log) h.next command) h.log in let b = is.counted.blocks in omega (arith, a, b);
            window = is.counted.window;
          };
          places = placed;
        })

    pub mutation-creates : CreatesMutation (table_at now) command (table_at (record h { log = log; next = next; tree = t }))
    mutation-creates = subst (λ (k : Held). CreatesMutation (table_at k) command (table_at (record h { log = log; next = next; tree = t }))) same
        (subst (λ (v : TableView). CreatesMutation (table_at h) command (shown v)) (sym (ap table_of new-is ∙ held-table entry_bytes new (after_mutation command (table_of h)) stepped refl))
        (mutation-bridge (table_of h) is.held.sound command may))
