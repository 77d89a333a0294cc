-- What entries of background work leave as it is, and how they are told by counts.
use Rattle.std.proofs.Common.{◌≡◌, ℕ, zero, ◌+◌, ◌≤◌, Bool, true, false, cond, not, List, [], ◌∷◌, ◌++◌, length, refl, sym, ap, subst, arith, ◌∙◌, nat_lt, nat_le}
use Rattle.std.proofs.lemmas.Bool.Decides.{nat_tests}
use Rattle.std.proofs.lemmas.List.Sums.{sum_by-cons}
use Rattle.std.specs.List.{filter_map, cons_option, list_all}
use Rattle.std.specs.Option.{option_and_then}
use Rattle.std.specs.declared.option.Option.{Option}
use Rattle.std.specs.declared.option.Option.TheVariants.{Some, None}
use Rattle.rmt_entries.specs.declared.entry.Entry.{Entry}
use Rattle.rmt_entries.specs.declared.entry.Entry.TheVariants.{Get, Merge, Mutate, Mutation, DropRange}
use Rattle.rmt_model.specs.Words.{Each}
use Rattle.rmt_model.specs.Lawful.{Lawful, IsPrefix, mutation_count}
use Rattle.rmt_model.specs.Content.{Row, Blocks, changed, outlasts, rows_from, rows}
use Rattle.rmt_model.specs.Window.{kept}
use Rattle.rmt_model.specs.EntryLimits.{is_client, client_count, worker_count, worker_limit}
use Rattle.rmt_statement_model.specs.TableStates.{TableState}
use Rattle.rmt_statement_model.specs.BackgroundWork.{IsOfWorker, HadRoom}
use Rattle.rmt_statement_model.specs.Books.{ArePrefixesOf, all_clients, GainWork}
use Rattle.rmt_statement_model.specs.Rests.{Idles}

-- ---- one entry

-- an entry that is no client's is a worker's
pub worker-entry : (e : Entry) → is_client e ≡ false → IsOfWorker e
worker-entry (Merge name sources count) q = tt
worker-entry (Mutate old name upto count mcount) q = tt
worker-entry (Get p n digest source need) q = absurd (cc)
worker-entry (Mutation id numbers command) q = absurd (cc)
worker-entry (DropRange p n) q = absurd (cc)

pub not-client : (e : Entry) → IsOfWorker e → is_client e ≡ false
not-client (Merge name sources count) q = refl
not-client (Mutate old name upto count mcount) q = refl
not-client (Get p n digest source need) q = absurd q
not-client (Mutation id numbers command) q = absurd q
not-client (DropRange p n) q = absurd q

then-same : (o : Option Row) → option_and_then (λ row. Some row) o ≡ o
then-same None = refl
then-same (Some r) = refl

filter_map-same : {X Y : Type 0} (f g : X → Option Y) (xs : List X) → ((x : X) → f x ≡ g x) → filter_map f xs ≡ filter_map g xs
filter_map-same f g [] e = refl
filter_map-same {Y = Y} f g (x ∷ xs) e = ap (λ (o : Option Y). cons_option o (filter_map f xs)) (e x) ∙ ap (cons_option (g x)) (filter_map-same f g xs e)

-- the plain rows from a rest of the log
rows-one : (e : Entry) (log : List Entry) (blocks : Blocks) (rest : List Entry) → ((p : Option ℕ) (passes : ℕ → Bool) (row : Row) → changed (e ∷ log) p passes row ≡ changed log p passes row) → ((p : Option ℕ) (n : ℕ) → list_all (λ x. outlasts x p n) (e ∷ log) ≡ list_all (λ x. outlasts x p n) log) → rows_from (e ∷ log) blocks rest ≡ rows_from log blocks rest
rows-one e log blocks [] f g = refl
rows-one e log blocks (Get p n digest source need ∷ rest) f g =
    ap (λ (b : Bool). cond b (filter_map (changed (e ∷ log) p (λ k. nat_lt n k)) (blocks p n)) [] ++ rows_from (e ∷ log) blocks rest) (g p n)
    ∙ (ap (λ (xs : List Row). cond (list_all (λ x. outlasts x p n) log) xs [] ++ rows_from (e ∷ log) blocks rest) (filter_map-same (changed (e ∷ log) p (λ k. nat_lt n k)) (changed log p (λ k. nat_lt n k)) (blocks p n) (f p (λ k. nat_lt n k)))
    ∙ ap (λ (xs : List Row). cond (list_all (λ x. outlasts x p n) log) (filter_map (changed log p (λ k. nat_lt n k)) (blocks p n)) [] ++ xs) (rows-one e log blocks rest f g))
rows-one e log blocks (Merge new sources count ∷ rest) f g = rows-one e log blocks rest f g
rows-one e log blocks (Mutate old new upto count mcount ∷ rest) f g = rows-one e log blocks rest f g
rows-one e log blocks (Mutation id numbers command ∷ rest) f g = rows-one e log blocks rest f g
rows-one e log blocks (DropRange p n ∷ rest) f g = rows-one e log blocks rest f g

rows-worker : (e : Entry) (log : List Entry) (blocks : Blocks) → IsOfWorker e → rows (e ∷ log) blocks ≡ rows log blocks
rows-worker (Merge new sources count) log blocks q = rows-one (Merge new sources count) log blocks log (λ p passes row. then-same (changed log p passes row)) (λ p n. refl)
rows-worker (Mutate old new upto count mcount) log blocks q = rows-one (Mutate old new upto count mcount) log blocks log (λ p passes row. then-same (changed log p passes row)) (λ p n. refl)
rows-worker (Get p n digest source need) log blocks q = absurd q
rows-worker (Mutation id numbers command) log blocks q = absurd q
rows-worker (DropRange p n) log blocks q = absurd q

kept-worker : (e : Entry) (w : ℕ) (log : List Entry) → IsOfWorker e → kept w (e ∷ log) ≡ kept w log
kept-worker (Merge new sources count) w log q = refl
kept-worker (Mutate old new upto count mcount) w log q = refl
kept-worker (Get p n digest source need) w log q = absurd q
kept-worker (Mutation id numbers command) w log q = absurd q
kept-worker (DropRange p n) w log q = absurd q

mutations-worker : (e : Entry) (log : List Entry) → IsOfWorker e → mutation_count (e ∷ log) ≡ mutation_count log
mutations-worker (Merge new sources count) log q = omega arith
mutations-worker (Mutate old new upto count mcount) log q = omega arith
mutations-worker (Get p n digest source need) log q = absurd q
mutations-worker (Mutation id numbers command) log q = absurd q
mutations-worker (DropRange p n) log q = absurd q

-- ---- more entries

-- the plain rows stay
pub rows-stay : (gained log : List Entry) (blocks : Blocks) → Each IsOfWorker gained → rows (gained ++ log) blocks ≡ rows log blocks
rows-stay [] log blocks q = refl
rows-stay (e ∷ gained) log blocks q = rows-worker e (gained ++ log) blocks q.0 ∙ rows-stay gained log blocks q.1

-- the kept ids stay
pub kept-stay : (w : ℕ) (gained log : List Entry) → Each IsOfWorker gained → kept w (gained ++ log) ≡ kept w log
kept-stay w [] log q = refl
kept-stay w (e ∷ gained) log q = kept-worker e w (gained ++ log) q.0 ∙ kept-stay w gained log q.1

-- the mutations stay
pub mutations-stay : (gained log : List Entry) → Each IsOfWorker gained → mutation_count (gained ++ log) ≡ mutation_count log
mutations-stay [] log q = refl
mutations-stay (e ∷ gained) log q = mutations-worker e (gained ++ log) q.0 ∙ mutations-stay gained log q.1

-- the client entries stay
client-cons : (e : Entry) (log : List Entry) → client_count (e ∷ log) ≡ cond (is_client e) 1 0 + client_count log
client-cons e log = sum_by-cons (λ x. cond (is_client x) 1 0) e log

worker-cons : (e : Entry) (log : List Entry) → worker_count (e ∷ log) ≡ cond (not (is_client e)) 1 0 + worker_count log
worker-cons e log = sum_by-cons (λ x. cond (not (is_client x)) 1 0) e log

clients-one : (e : Entry) (log : List Entry) → is_client e ≡ false → client_count (e ∷ log) ≡ client_count log
clients-one e log q = client-cons e log ∙ (ap (λ (b : Bool). cond b 1 0 + client_count log) q ∙ zero-left (client_count log))
  where
    zero-left : (n : ℕ) → 0 + n ≡ n
    zero-left n = omega arith

pub clients-stay : (gained log : List Entry) → Each IsOfWorker gained → client_count (gained ++ log) ≡ client_count log
clients-stay [] log q = refl
clients-stay (e ∷ gained) log q = clients-one e (gained ++ log) (not-client e q.0) ∙ clients-stay gained log q.1

-- a longer log has no fewer
pub clients-grow : (gained log : List Entry) → client_count log ≤ client_count (gained ++ log)
clients-grow [] log = omega arith
clients-grow (e ∷ gained) log = let h = clients-grow gained log in let c = client-cons e (gained ++ log) in omega (arith, h, c)

-- where a log has as many client entries as a prefix of it, it has gained entries of workers alone
pub gained-workers : (gained log : List Entry) → client_count (gained ++ log) ≡ client_count log → Each IsOfWorker gained
gained-workers [] log e = tt
gained-workers (x ∷ gained) log e = go (is_client x) refl (client-cons x (gained ++ log)) (clients-grow gained log) (λ f. gained-workers gained log f)
  where
    go : (b : Bool) → is_client x ≡ b → client_count (x ∷ (gained ++ log)) ≡ cond b 1 0 + client_count (gained ++ log) → client_count log ≤ client_count (gained ++ log) → (client_count (gained ++ log) ≡ client_count log → Each IsOfWorker gained) → IsOfWorker x × Each IsOfWorker gained
    go true q c h f = absurd (omega (arith, c, h, e))
    go false q c h f = (worker-entry x q, f (omega (arith, c, e)))

-- where the longer log is within the limit of worker entries, each of its entries was as it came
pub gained-room : (gained log : List Entry) → Each IsOfWorker gained → worker_count (gained ++ log) ≤ 32768 → HadRoom gained log
gained-room [] log q h = tt
gained-room (e ∷ gained) log q h =
    let c : worker_count (e ∷ (gained ++ log)) ≡ cond (not (is_client e)) 1 0 + worker_count (gained ++ log) = worker-cons e (gained ++ log) in
    let f : not (is_client e) ≡ true = ap not (not-client e q.0) in
    let d : worker_count (e ∷ (gained ++ log)) ≡ 1 + worker_count (gained ++ log) = c ∙ ap (λ (b : Bool). cond b 1 0 + worker_count (gained ++ log)) f in
    let g : 1 + worker_count (gained ++ log) ≤ 32768 = omega (arith, d, h) in
    (within g, gained-room gained log q.1 (omega (arith, g)))
  where
    below : (n : ℕ) → 1 + n ≤ 32768 → nat_le 32768 n ≡ false
    below n g = grind (arith, nat_tests)

    within : 1 + worker_count (gained ++ log) ≤ 32768 → worker_limit (gained ++ log) ≡ None
    within g = rw (below (worker_count (gained ++ log)) g) refl

-- what a table has gained of workers is background work
pub gained-idles : (t : TableState) (gained : List Entry) → Each IsOfWorker gained → worker_count (gained ++ t.log) ≤ 32768 → Lawful t.schema (gained ++ t.log) → Idles true t (record t { log = gained ++ t.log })
gained-idles t gained q h l = record {
  run = refl;
  turns = length gained;
  works = record { gained = gained; workers = q; within = omega arith; room = gained-room gained t.log q h; lawful = l; noted = []; live = tt; change = refl };
}

-- ---- books: the counts of all tables at once

pub front-clients : (c l : List Entry) → IsPrefix c l → client_count c ≤ client_count l
front-clients c l f = subst (λ (x : List Entry). client_count c ≤ client_count x) (sym f.is) (clients-grow f.gained c)

fronts-clients : (copies logs : List (List Entry)) → ArePrefixesOf copies logs → all_clients copies ≤ all_clients logs
fronts-clients [] [] f = omega arith
fronts-clients (c ∷ copies) (l ∷ logs) f = let a = front-clients c l f.0 in let b = fronts-clients copies logs f.1 in omega (arith, a, b)
fronts-clients [] (l ∷ logs) f = absurd f
fronts-clients (c ∷ copies) [] f = absurd f

-- where all logs together have as many client entries as their prefixes, each has gained entries of workers alone
pub books-tell : (copies logs : List (List Entry)) → ArePrefixesOf copies logs → all_clients logs ≡ all_clients copies → GainWork copies logs
books-tell [] [] f e = tt
books-tell (c ∷ copies) (l ∷ logs) f e =
    let a = front-clients c l f.0 in
    let b = fronts-clients copies logs f.1 in
    let one : client_count l ≡ client_count c = omega (arith, a, b, e) in
    let rest : all_clients logs ≡ all_clients copies = omega (arith, a, b, e) in
    (record { gained = f.0.gained; is = f.0.is; workers = gained-workers f.0.gained c (subst (λ (x : List Entry). client_count x ≡ client_count c) f.0.is one) }, books-tell copies logs f.1 rest)
books-tell [] (l ∷ logs) f e = absurd f
books-tell (c ∷ copies) [] f e = absurd f
