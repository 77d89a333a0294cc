-- What a pull makes of a table and of a copy of its log.
use Rattle.std.proofs.Common.{◌≡◌, ◌≢◌, ℕ, zero, suc, ◌-◌, ◌<◌, ◌≤◌, List, [], ◌∷◌, length, refl, sym, ap, subst, arith, ◌∙◌, get_or, set}
use Rattle.std.proofs.lemmas.List.{get_or_default}
use Rattle.std.specs.Prelude.{slice_get}
use Rattle.std.specs.Fmt.{decimal}
use Rattle.std.specs.declared.option.Option.TheVariants.{Some, None}
use Rattle.rmt_row.specs.Token.{Token, IsOf}
use Rattle.rmt_entries.specs.declared.entry.Entry.{Entry}
use Rattle.rmt_entries.specs.EntryBytes.{entry_bytes}
use Rattle.rmt_model.specs.Words.{Each}
use Rattle.rmt_model.specs.Lawful.{IsPrefix, entry_at}
use Rattle.rmt_events.proofs.Moves.{goes-on-more}
use Rattle.rmt_history.specs.Copies.{History, entries, IsLogOf, HasRowOf}
use Rattle.rmt_history.specs.TableLogs.{Follows, HaveRowOf}
use Rattle.rmt_history.proofs.Copied.{length-entries, token_at}
use Rattle.rmt_history.proofs.RowLemmas.{longer-of-row, prefix-by-entries, each-there}
use Rattle.rmt_tree.specs.Trees.{TreeView}
use Rattle.rmt_tree.specs.Ops.{after_all, first_refusal}
use Rattle.rmt_tree.specs.declared.op.Op.TheVariants as op
use Rattle.rmt_znodes.specs.declared.znode.Znode.TheVariants.{LogPointer}
use Rattle.rmt_znodes.specs.Znodes.{znode_path}
use Rattle.rmt_table_model.specs.Changes.{after_pull}
use Rattle.rmt_table_model.specs.Held.{Held, table_of}
use Rattle.rmt_table_model.specs.Nodes.{IsTable}
use Rattle.rmt_znodes.specs.ZnodeStates.{Makes}
use Rattle.rmt_table_model.specs.Steps.{Steps}
use Rattle.rmt_table_model.proofs.TableLemmas.{pull-steps}
use Rattle.rmt_table_model.proofs.HeldLemmas.{held-table, held-held}
use Rattle.rmt_table.specs.SeenTable.{shown}
use Rattle.rmt_table.proofs.CallBridge.{pull-bridge}
use Rattle.rmt_table.specs.TableTrees.{table_at, IsReplica, Counts, ArePlaced, IsTableTree, IsCopyOf}
use Rattle.rmt_table.proofs.PrefixLemmas.{prefix-whole, prefix-length, prefix-next}

-- a copy that has gone on, and is a prefix of the log
pub record IsBetween (row : List ℕ) (before : History) (copy : History) (log : List Entry) : Type 0 where
  pub cells : IsLogOf row copy
  pub schema : copy.schema ≡ before.schema
  pub longer : IsPrefix before.log copy.log
  pub prefix : IsPrefix copy.log log

-- it is as long as the log
pub pulled-whole : (row : List ℕ) (before copy : History) (tokens : List (Token Entry)) (n : ℕ) → IsBetween row before copy (entries tokens) → n ≡ length copy.log → length tokens ≤ n → copy.log ≡ entries tokens
pulled-whole row before copy tokens n is e l =
    prefix-whole copy.log (entries tokens) is.prefix (let w = prefix-length copy.log (entries tokens) is.prefix in let t = length-entries tokens in omega (arith, w, t, e, l))

-- it is of one row with the log
pub between-row : (row : List ℕ) (before copy : History) (tokens : List (Token Entry)) → ArePlaced row tokens → IsBetween row before copy (entries tokens) → HaveRowOf copy tokens
between-row row before copy tokens places is = (row, is.cells, λ i t e. (places.each i t e).1)

-- a copy that follows the log is still a prefix of it, and of the row
pub follow-between : (row : List ℕ) (before copy more : History) (tokens : List (Token Entry)) → ArePlaced row tokens → IsBetween row before copy (entries tokens) → Follows copy tokens more → IsBetween row before more (entries tokens)
follow-between row before copy more tokens places is f = subst (λ (h : History). IsBetween row before h (entries tokens)) (sym f.is) (record {
  cells = let at = places.each (length copy.log) f.next f.there in longer-of-row row copy f.next is.cells at.0 at.1;
  schema = is.schema;
  longer = goes-on-more f.next.value before.log copy.log is.longer;
  prefix = prefix-next copy.log (entries tokens) f.next.value is.prefix (token_at tokens (length copy.log) f.next f.there);
})

-- it has one entry more
pub follow-longer : (copy more : History) (tokens : List (Token Entry)) → Follows copy tokens more → length more.log ≡ suc (length copy.log)
follow-longer copy more tokens f = ap (λ (h : History). length h.log) f.is

-- how much a replica has pulled
module _ (h : Held) (tokens : List (Token Entry)) (counts : Counts) (is : IsTableTree h tokens counts) (now : Held) (same : h ≡ now) (r : ℕ) (here : IsReplica now r) (at : ℕ) (at-is : at ≡ r) (found len : ℕ) (found-is : found ≡ get_or h.pulled (at - 1) found) (len-now : len ≡ length now.log) (other : found ≢ len) where
  within : r - 1 < length h.sessions
  within = let f = here.first in let l : r ≤ length h.sessions = subst (λ (k : Held). r ≤ length k.sessions) (sym same) here.last in omega (arith, f, l)

  place-of : suc (r - 1) ≡ r
  place-of = let f = here.first in omega (arith, f)

  len-is : len ≡ length h.log
  len-is = len-now ∙ ap (λ (k : Held). length k.log) (sym same)

  found-zero : get_or h.pulled (r - 1) 0 ≡ found
  found-zero = let m = is.held.same_many in let w = within in
      get_or_default h.pulled (r - 1) 0 found (omega (arith, m, w)) ∙ ap (λ (i : ℕ). get_or h.pulled (i - 1) found) (sym at-is) ∙ sym found-is

  stepped : Steps entry_bytes h.tree (op.Set (znode_path (LogPointer (suc (r - 1)))) (decimal (length h.log)) None ∷ []) (after_pull (r - 1) (table_of h))
  stepped = pull-steps entry_bytes h.tree (table_of h) is.held (r - 1) within (λ e. other (sym found-zero ∙ e ∙ sym len-is))

  pub pull-fine : first_refusal h.tree (op.Set (znode_path (LogPointer r)) (decimal len) None ∷ []) 0 ≡ None
  pull-fine = subst (λ (n : ℕ). first_refusal h.tree (op.Set (znode_path (LogPointer r)) (decimal n) None ∷ []) 0 ≡ None) (sym len-is)
      (subst (λ (i : ℕ). first_refusal h.tree (op.Set (znode_path (LogPointer i)) (decimal (length h.log)) None ∷ []) 0 ≡ None) place-of (Makes.none_refused (Steps.makes stepped) 0))

  module _ (t : TreeView) (t-is : t ≡ after_all h.tree (op.Set (znode_path (LogPointer r)) (decimal len) None ∷ [])) where
    pull-stepped : IsTable entry_bytes t (after_pull (r - 1) (table_of h))
    pull-stepped = subst (λ (w : TreeView). IsTable entry_bytes w (after_pull (r - 1) (table_of h)))
        (ap (λ (n : ℕ). after_all h.tree (op.Set (znode_path (LogPointer (suc (r - 1)))) (decimal n) None ∷ [])) (sym len-is)
        ∙ ap (λ (i : ℕ). after_all h.tree (op.Set (znode_path (LogPointer i)) (decimal len) None ∷ [])) place-of ∙ sym t-is)
        (Steps.table (pull-steps entry_bytes h.tree (table_of h) is.held (r - 1) within (λ e. other (sym found-zero ∙ e ∙ sym len-is))))

    pull-moved : ◌≡◌ {A = Held} (record h { pulled = set h.pulled (r - 1) (length h.log); tree = t }) (record h { pulled = set h.pulled (at - 1) len; tree = t })
    pull-moved = ap (λ (i : ℕ). record h { pulled = set h.pulled (i - 1) (length h.log); tree = t }) (sym at-is) ∙ ap (λ (n : ℕ). record h { pulled = set h.pulled (at - 1) n; tree = t }) (sym len-is)

    pub pull-kept : IsTableTree (record h { pulled = set h.pulled (at - 1) len; tree = t }) tokens counts
    pull-kept = subst (λ (k : Held). IsTableTree k tokens counts) pull-moved (record {
      held = held-held entry_bytes (record h { pulled = set h.pulled (r - 1) (length h.log); tree = t }) (after_pull (r - 1) (table_of h)) pull-stepped refl;
      counted = record { clients = is.counted.clients; workers = is.counted.workers; mutations = is.counted.mutations; blocks = is.counted.blocks; window = is.counted.window };
      places = is.places;
    })

    pub pull-seen : table_at (record h { pulled = set h.pulled (at - 1) len; tree = t }) ≡ table_at now
    pull-seen =
        ap table_at (sym pull-moved)
        ∙ ap shown (held-table entry_bytes (record h { pulled = set h.pulled (r - 1) (length h.log); tree = t }) (after_pull (r - 1) (table_of h)) pull-stepped refl)
        ∙ pull-bridge (table_of h) (r - 1)
        ∙ ap table_at same

-- the token at a place
token-at : (tokens : List (Token Entry)) (i : ℕ) → i < length tokens → (t : Token Entry) × (slice_get tokens i ≡ Some t)
token-at [] i l = absurd (omega (arith, l))
token-at (t ∷ tokens) zero l = (t, refl)
token-at (t ∷ tokens) (suc i) l = token-at tokens i (omega (arith, l))

-- a copy of the row that isn't longer than the log, and whose entries the tokens tell, is a copy of the table's log
pub meets : (h : Held) (tokens : List (Token Entry)) (counts : Counts) → IsTableTree h tokens counts → h.log ≡ entries tokens → (copy : History) → copy.schema ≡ h.schema → IsLogOf h.row copy → length copy.log ≤ length h.log
    → Each (λ t. t.place < length copy.log → entry_at copy.log t.place ≡ Some t.value) tokens → IsCopyOf h copy
meets h tokens counts is of copy s r l f = record {
  schema = s;
  cells = r;
  prefix = prefix-by-entries copy.log h.log l (λ j m. let t = token-at tokens j (within j m) in same j m t.0 t.1);
}
  where
    within : (j : ℕ) → j < length copy.log → j < length tokens
    within j m = let n = length-entries tokens in let q = ap (λ (k : List Entry). length k) of in omega (arith, n, q, l, m)

    same : (j : ℕ) → j < length copy.log → (t : Token Entry) → slice_get tokens j ≡ Some t → entry_at copy.log j ≡ entry_at h.log j
    same j m t at =
        let p : t.place ≡ j = (is.places.each j t at).0 in
        subst (λ (k : ℕ). entry_at copy.log k ≡ Some t.value) p (each-there (λ u. u.place < length copy.log → entry_at copy.log u.place ≡ Some u.value) tokens j t f at (subst (λ (k : ℕ). k < length copy.log) (sym p) m))
        ∙ sym (ap (λ (k : List Entry). entry_at k j) of ∙ token_at tokens j t at)

-- each token is of the row of a copy
pub of-row : (h : Held) (tokens : List (Token Entry)) (counts : Counts) → IsTableTree h tokens counts → (copy : History) → IsLogOf h.row copy → Each (HasRowOf copy) tokens
of-row h tokens counts is copy of = go tokens 0 (λ i t e. (is.places.each i t e).1)
  where
    go : (xs : List (Token Entry)) (k : ℕ) → ((i : ℕ) (t : Token Entry) → slice_get xs i ≡ Some t → IsOf h.row t) → Each (HasRowOf copy) xs
    go [] k f = tt
    go (x ∷ xs) k f = ((h.row, of, f 0 x refl), go xs k (λ i t e. f (suc i) t e))
