-- What is read of a table: only its mutations matter, and where all of its log is known the rows are the plain ones.
use Rattle.std.proofs.Common.{◌≡◌, ℕ, ◌||◌, ◌&&◌, Bool, true, List, [], ◌∷◌, ◌++◌, length, filter, map, refl, sym, ap, subst, arith, ◌∙◌, nat_eq, nat_lt}
use Rattle.std.proofs.lemmas.Bool.Decides.{nat_tests}
use Rattle.std.specs.List.{filter_map, cons_option}
use Rattle.std.specs.Option.{option_and_then}
use Rattle.std.specs.declared.option.Option.{Option}
use Rattle.std.specs.declared.option.Option.TheVariants.{Some, None}
use Rattle.rmt_values.specs.Rows.{Shape}
use Rattle.rmt_values.specs.Order.{SameBag}
use Rattle.rmt_names.specs.Names.{data_version}
use Rattle.rmt_entries.specs.declared.entry.Entry.{Entry}
use Rattle.rmt_entries.specs.declared.entry.Entry.TheVariants.{Get, Merge, Mutate, Mutation, DropRange}
use Rattle.rmt_granules.specs.Granules.{PartView}
use Rattle.rmt_granules.specs.MadePart.{data_of}
use Rattle.rmt_model.specs.Words.{Each}
use Rattle.rmt_model.specs.Live.{live}
use Rattle.rmt_model.specs.Lawful.{Lawful, is_mutation}
use Rattle.rmt_model.specs.Content.{Row, Blocks, changed, changed_by, content, snapshot}
use Rattle.rmt_model.proofs.Drained.{fair-live}
use Rattle.rmt_laws.proofs.Headline.{reads-plain-rows}
use Rattle.rmt_changes.specs.Laws.{EntryFits}
use Rattle.rmt_partset.specs.Snapshots.{NamedData, names_in, data_in}
use Rattle.rmt_query.specs.ReadRows.{row_read, rows_of_part, rows_read}
use Rattle.rmt_events.specs.Clusters.{rows_at}
use Rattle.rmt_statement_model.specs.TableStates.{TableState, synced, plain_rows}
use Rattle.rmt_statement_model.specs.Reads.{IsReading, KnowsAll}

-- ---- only mutations matter

-- a step that leaves every row as it was
then-same : (o : Option Row) → option_and_then (λ row. Some row) o ≡ o
then-same None = refl
then-same (Some r) = refl

-- a row after the mutations of a log is the row after the log
changed-same : (log : List Entry) (p : Option ℕ) (passes : ℕ → Bool) (row : Row) → changed (filter is_mutation log) p passes row ≡ changed log p passes row
changed-same [] p passes row = refl
changed-same (Mutation id numbers command ∷ log) p passes row = ap (option_and_then (changed_by (Mutation id numbers command) p passes)) (changed-same log p passes row)
changed-same (Get q n digest source need ∷ log) p passes row = changed-same log p passes row ∙ sym (then-same (changed log p passes row))
changed-same (Merge new sources count ∷ log) p passes row = changed-same log p passes row ∙ sym (then-same (changed log p passes row))
changed-same (Mutate old new upto count mcount ∷ log) p passes row = changed-same log p passes row ∙ sym (then-same (changed log p passes row))
changed-same (DropRange q n ∷ log) p passes row = changed-same log p passes row ∙ sym (then-same (changed log p passes row))

-- functions that agree leave the same of a list
filter_map-same : {X Y : Type 0} (f g : X → Option Y) (xs : List X) → ((x : X) → f x ≡ g x) → filter_map f xs ≡ filter_map g xs
filter_map-same f g [] e = refl
filter_map-same {Y = Y} f g (x ∷ xs) e = ap (λ (o : Option Y). cons_option o (filter_map f xs)) (e x) ∙ ap (cons_option (g x)) (filter_map-same f g xs e)

-- the rows that are read with the mutations of a log are those that are read with the log
pub all-mutations-read : (log : List Entry) (parts : List NamedData) → rows_read (filter is_mutation log) parts ≡ rows_read log parts
all-mutations-read log [] = refl
all-mutations-read log (part ∷ parts) =
    ap (λ (xs : List Row). xs ++ rows_read (filter is_mutation log) parts) (filter_map-same (row_read (filter is_mutation log) part.name) (row_read log part.name) part.rows.rows (λ row. changed-same log part.name.partition (λ k. nat_lt (data_version part.name) k) row))
    ∙ ap (λ (xs : List Row). rows_of_part log part ++ xs) (all-mutations-read log parts)

-- the commands of a lawful log are of its schema
pub entries-fit : (schema : Shape) (log : List Entry) → Lawful schema log → Each (EntryFits schema) log
entries-fit schema [] l = tt
entries-fit schema (Mutation id numbers command ∷ log) l = (l.1.fits, entries-fit schema log l.0)
entries-fit schema (Get p n digest source need ∷ log) l = (tt, entries-fit schema log l.0)
entries-fit schema (Merge new sources count ∷ log) l = (tt, entries-fit schema log l.0)
entries-fit schema (Mutate old new upto count mcount ∷ log) l = (tt, entries-fit schema log l.0)
entries-fit schema (DropRange p n ∷ log) l = (tt, entries-fit schema log l.0)

-- ---- a replica that knows the whole log

-- parts that hold the contents of their names are read as the snapshot of these names
read-snapshot : (schema : Shape) (log : List Entry) (blocks : Blocks) (parts : List NamedData) → data_in parts ≡ map (λ a. data_of schema (content schema log blocks a)) (names_in parts) → rows_read log parts ≡ snapshot schema log blocks (names_in parts)
read-snapshot schema log blocks [] e = refl
read-snapshot schema log blocks (part ∷ parts) e =
    let first : part.rows ≡ data_of schema (content schema log blocks part.name) = cc in
    let others : data_in parts ≡ map (λ a. data_of schema (content schema log blocks a)) (names_in parts) = cc in
    ap (λ (v : PartView). filter_map (row_read log part.name) v.rows ++ rows_read log parts) first
    ∙ ap (λ (xs : List Row). filter_map (row_read log part.name) (content schema log blocks part.name) ++ xs) (read-snapshot schema log blocks parts others)

-- where all of the log is known, the rows that are read are the plain ones
pub plain-read : (t : TableState) (k : ℕ) (parts : List NamedData) → Lawful t.schema t.log → IsReading t k parts → KnowsAll t k → SameBag (rows_read t.log parts) (plain_rows t)
plain-read t k parts l r all =
    let e : rows_read t.log parts ≡ snapshot t.schema t.log (rows_at t.blocks) (live t.log) = read-snapshot t.schema t.log (rows_at t.blocks) parts r.holds ∙ ap (snapshot t.schema t.log (rows_at t.blocks)) (fair-live t.schema t.log (t.known k) (names_in parts) l r.fair all) in
    subst (λ (xs : List Row). SameBag xs (plain_rows t)) (sym e) (reads-plain-rows t.schema t.log l (rows_at t.blocks))

-- a replica that was synced knows the whole log
pub synced-knows : (t : TableState) (k : ℕ) → KnowsAll (synced k t) k
synced-knows t k i l = either (nat_eq k k) (nat_lt i (length t.log)) (t.known k i) (grind (arith, nat_tests)) (grind (arith, nat_tests))
  where
    either : (a b c : Bool) → a ≡ true → b ≡ true → ((a && b) || c) ≡ true
    either a b c e f = rw e (rw f refl)
