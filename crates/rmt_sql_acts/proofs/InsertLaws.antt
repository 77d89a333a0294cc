-- INSERT is read exactly, with TABLE as a keyword and as a table's name.
use Rattle.std.proofs.Common.{◌≡◌, ◌∙◌, ℕ, List, [], ◌∷◌, ◌++◌, refl, ap, sym, subst, Bool, true, false, Option, Some, None, append_assoc, Ok, inl, inr, ◌⊎◌}
use Rattle.std.specs.Prelude.{codes, ◌||◌}
use Rattle.rmt_values.specs.declared.literal.Literal.{Literal}
use Rattle.rmt_sql_tokens.specs.declared.symbol_kind.SymbolKind.TheVariants as symbols
use Rattle.rmt_sql_tokens.specs.Tokens.{Spot}
use Rattle.rmt_sql_tokens.specs.Classes.{Class, Keyword, Exactly, AnyWord, Sign, End, is_of, among, next_among}
use Rattle.rmt_sql_tokens.specs.Singles.{keyword, exactly, symbol, a_word}
use Rattle.rmt_sql_tokens.specs.Exact.{never, One, Then, Maybe, always}
use Rattle.rmt_sql_tokens.proofs.Apart.{disjoint, disjoint_is}
use Rattle.rmt_sql_tokens.proofs.Closed.{exact_gives, on_many}
use Rattle.rmt_sql_tokens.proofs.Longest.{exact_longest}
use Rattle.rmt_sql_tokens.proofs.Laws.{Law, law_then, law_gives, law_either, law_maybe, law_chain, law_item, law_wider, step, step_on, step_maybe, on_last}
use Rattle.rmt_sql_tokens.proofs.SingleLaws.{chosen, keyword_law, exactly_law, symbol_law, word_law, number_law, data_law}
use Rattle.rmt_statements.specs.declared.act.Act.{Act}
use Rattle.rmt_sql_acts.specs.Phrases.{word, opening, comma, names_in_parentheses, literal}
use Rattle.rmt_sql_acts.specs.Acts.{row, row_firsts, further_row, rows, values, csv, insert_rows, quorum_setting, quorum_and_rows, into, into_table, insert}
use Rattle.rmt_sql_acts.proofs.PhraseLaws.{open_law, close_law, comma_law, literal_firsts, literal_law, law_listed, on_list, list_apart, names_law, names_in_parentheses_law, ended_law}

pub row_law : Law row never opening
unfolding row
row_law =
    law_then _ _ never _ open_law (λ _.
    step_on _ _ (on_list never) never _ (λ _. Sign symbols.Close ∷ []) (law_listed literal never _ literal_law (λ _. refl)) (λ all. law_gives _ (λ _. all) never never _ (λ _. refl) close_law) (list_apart (Sign symbols.Close ∷ []) refl))

abbrev pub no_more : List (List Literal) → List Class
no_more all = on_last never all

abbrev pub on_rows : List (List Literal) → List Class
on_rows = on_many always row_firsts no_more

nothing_more : (all : List (List Literal)) → no_more all ≡ []
nothing_more [] = refl
nothing_more (a ∷ []) = refl
nothing_more (a ∷ b ∷ more) = nothing_more (b ∷ more)

pub further_row_law : (all : List (List Literal)) → Law (further_row all) no_more row_firsts
unfolding further_row
further_row_law all = law_maybe _ _ never no_more comma opening comma_law (λ _. law_item row all never _ row_law) refl (λ _. refl)

pub rows_law : Law rows on_rows opening
unfolding rows
rows_law =
    law_chain _ always row_firsts _ no_more _ (law_item row [] never _ row_law) (λ all may. (further_row_law all).exact) (λ all. (further_row_law all).starts)
    (λ all. subst (λ cs. disjoint row_firsts cs ≡ true) (sym (nothing_more all)) refl)

rows_apart : (all : List (List Literal)) → disjoint (End ∷ []) (on_rows all) ≡ true
rows_apart all = subst (λ cs. disjoint (End ∷ []) (row_firsts ++ cs) ≡ true) (sym (nothing_more all)) refl

values_law : (table : List ℕ) (columns : Option (List (List ℕ))) (quorum : Option ℕ) → Law (values table columns quorum) never (word (codes "values"))
unfolding values
values_law table columns quorum = law_then _ _ never _ (keyword_law (codes "values") refl) (λ _. step_on _ _ on_rows never _ (λ _. End ∷ []) rows_law (λ all. ended_law _) rows_apart)

csv_law : (table : List ℕ) (columns : Option (List (List ℕ))) (quorum : Option ℕ) → Law (csv table columns quorum) never (word (codes "format"))
unfolding csv
csv_law table columns quorum =
    law_then _ _ never _ (keyword_law (codes "format") refl) (λ _. step _ _ never _ (keyword_law (codes "csv") refl) (λ _. step _ _ never _ data_law (λ bytes. (ended_law _).exact)))

abbrev pub insert_rows_firsts : List Class
insert_rows_firsts = Keyword (codes "values") ∷ Keyword (codes "format") ∷ []

pub insert_rows_law : (table : List ℕ) (columns : Option (List (List ℕ))) (quorum : Option ℕ) → Law (insert_rows table columns quorum) never insert_rows_firsts
unfolding insert_rows
insert_rows_law table columns quorum = law_either _ _ never (word (codes "values")) (word (codes "format")) (values_law table columns quorum) (csv_law table columns quorum) refl

quorum_setting_law : Law quorum_setting never (word (codes "settings"))
unfolding quorum_setting
quorum_setting_law =
    law_then _ _ never _ (keyword_law (codes "settings") refl) (λ _. step _ _ never _ (exactly_law (codes "insert_quorum") refl) (λ _. step _ _ never _ (symbol_law symbols.Equal refl) (λ _. step _ _ never _ number_law (λ n. exact_gives n))))

abbrev pub quorum_firsts : List Class
quorum_firsts = Keyword (codes "settings") ∷ insert_rows_firsts

pub quorum_and_rows_law : (may_set : Bool) (table : List ℕ) (columns : Option (List (List ℕ))) → Law (quorum_and_rows may_set table columns) never quorum_firsts
quorum_and_rows_law true table columns = law_maybe _ _ never never (word (codes "settings")) insert_rows_firsts quorum_setting_law (λ quorum. insert_rows_law table columns quorum) refl (λ _. refl)
quorum_and_rows_law false table columns = law_wider _ never (word (codes "settings")) insert_rows_firsts (insert_rows_law table columns None)

pub into_law : (may_set : Bool) → Law (into may_set) never (AnyWord ∷ [])
unfolding into
into_law may_set =
    law_then _ _ never _ word_law (λ table. step_maybe _ _ never never opening quorum_firsts names_in_parentheses_law (λ columns. quorum_and_rows_law may_set table columns) refl (λ _. refl))

pub into_table_law : (may_set : Bool) → Law (into_table may_set) never (word (codes "table"))
unfolding into_table
into_table_law may_set = law_then _ _ never _ (keyword_law (codes "table") refl) (λ _. (into_law may_set).exact)

-- ---- no line without the keyword TABLE begins as one with it does

peeled : {A B : Type 0} (p : Spot → Option A) (M : A → List Spot → B → Type 0) (prefix : List Spot) (b : B) → Then (One p) M prefix b → (s : Spot) × (ss : List Spot) × (a : A) × (prefix ≡ s ∷ ss) × (p s ≡ Some a) × M a ss b
peeled p M prefix b is = go is.prefix is.parts is.first
  where
    go : (one : List Spot) → one ++ is.rest ≡ prefix → One p one is.value → (s : Spot) × (ss : List Spot) × (a : _) × (prefix ≡ s ∷ ss) × (p s ≡ Some a) × M a ss b
    go [] parts first = absurd first
    go (s ∷ []) parts first = (s, is.rest, is.value, sym parts, first, is.second)
    go (s ∷ t ∷ ts) parts first = absurd first

-- the tokens after a table's name, as far as they tell
abbrev Known : List Spot → Type 0
Known ts = (next_among (Exactly (codes "insert_quorum") ∷ Keyword (codes "csv") ∷ []) ts ≡ true) ⊎ ((t : Spot) × (more : List Spot) × (ts ≡ t ∷ more) × (among opening t ≡ true) × (next_among literal_firsts more ≡ true))

-- after a name: a parenthesis, or one more token and what tells
abbrev MayFollowTable : List Spot → Type 0
MayFollowTable ts = (next_among opening ts ≡ true) ⊎ ((t : Spot) × (more : List Spot) × (ts ≡ t ∷ more) × Known more)

among_exactly : (text : List ℕ) (s : Spot) (u : Unit {0}) → exactly text s ≡ Some u → among (Exactly text ∷ []) s ≡ true
among_exactly text s u h = chosen (is_of (Exactly text) s.token) tt u h

among_keyword : (small : List ℕ) (s : Spot) (u : Unit {0}) → keyword small s ≡ Some u → among (Keyword small ∷ []) s ≡ true
among_keyword small s u h = chosen (is_of (Keyword small) s.token) tt u h

among_symbol : (s : Spot) (u : Unit {0}) → symbol symbols.Open s ≡ Some u → among opening s ≡ true
among_symbol s u h = chosen (is_of (Sign symbols.Open) s.token) tt u h

known_word : (s : Spot) (ss : List Spot) → among (Exactly (codes "insert_quorum") ∷ []) s ≡ true → Known (s ∷ ss)
known_word s ss h = inl (rw h refl)

known_csv : (s : Spot) (ss : List Spot) → among (Keyword (codes "csv") ∷ []) s ≡ true → Known (s ∷ ss)
known_csv s ss h = inl (rw h (or_true (is_of (Exactly (codes "insert_quorum")) s.token)))
  where
    or_true : (b : Bool) → b || true ≡ true
    or_true true = refl
    or_true false = refl

-- rows begin with a parenthesis and a literal
rows_begin : (prefix more : List Spot) (all : List (List Literal)) → rows.form prefix all → (t : Spot) × (later : List Spot) × (prefix ++ more ≡ t ∷ later) × (among opening t ≡ true) × (next_among literal_firsts later ≡ true)
unfolding rows row
rows_begin prefix more all is =
    let first = is.first in
    let (s, ss, u, e, reads_as, others) = peeled (symbol symbols.Open) _ first.prefix first.value first.first in
    let lits = others.first in
    let whole : first.prefix ++ (first.rest ++ (is.rest ++ more)) ≡ prefix ++ more =
    sym (append_assoc first.prefix first.rest (is.rest ++ more)) ∙ (ap (λ l. l ++ (is.rest ++ more)) first.parts ∙ (sym (append_assoc is.prefix is.rest more) ∙ ap (λ l. l ++ more) is.parts)) in
    let tail : List Spot = ss ++ (first.rest ++ (is.rest ++ more)) in
    let head : s ∷ (ss ++ (first.rest ++ (is.rest ++ more))) ≡ prefix ++ more = ap (λ l. l ++ (first.rest ++ (is.rest ++ more))) (sym e) ∙ whole in
    let begin = (law_listed literal never literal_firsts literal_law (λ _. refl)).starts others.prefix (others.rest ++ (first.rest ++ (is.rest ++ more))) others.value lits in
    let place : others.prefix ++ (others.rest ++ (first.rest ++ (is.rest ++ more))) ≡ ss ++ (first.rest ++ (is.rest ++ more)) =
    sym (append_assoc others.prefix others.rest (first.rest ++ (is.rest ++ more))) ∙ ap (λ l. l ++ (first.rest ++ (is.rest ++ more))) others.parts in
    (s, ss ++ (first.rest ++ (is.rest ++ more)), sym head, among_symbol s u reads_as, subst (λ l. next_among literal_firsts l ≡ true) place begin)

insert_rows_later : (table : List ℕ) (columns : Option (List (List ℕ))) (quorum : Option ℕ) (prefix more : List Spot) (a : Act × ℕ) → (insert_rows table columns quorum).form prefix a → MayFollowTable (prefix ++ more)
unfolding insert_rows values csv
insert_rows_later table columns quorum prefix more a (inl is) =
    let (s, ss, u, e, reads_as, others) = peeled (keyword (codes "values")) _ prefix a is in
    let (t, later, here, opens, lits) = rows_begin others.prefix (others.rest ++ more) others.value others.first in
    let whole : others.prefix ++ (others.rest ++ more) ≡ ss ++ more = sym (append_assoc others.prefix others.rest more) ∙ ap (λ l. l ++ more) others.parts in
    inr (s, ss ++ more, ap (λ l. l ++ more) e, inr (t, later, sym whole ∙ here, opens, lits))
insert_rows_later table columns quorum prefix more a (inr is) =
    let (s, ss, u, e, reads_as, others) = peeled (keyword (codes "format")) _ prefix a is in
    let (t, ts, v, e2, csv_is, rest) = peeled (keyword (codes "csv")) _ ss a others in
    inr (s, ss ++ more, ap (λ l. l ++ more) e, subst Known (ap (λ l. l ++ more) (sym e2)) (known_csv t (ts ++ more) (among_keyword (codes "csv") t v csv_is)))

settings_later : (one rest prefix more : List Spot) (n : ℕ) → quorum_setting.form one n → one ++ rest ≡ prefix → MayFollowTable (prefix ++ more)
unfolding quorum_setting
settings_later one rest prefix more n first parts =
    let (s, ss, u, e, reads_as, others) = peeled (keyword (codes "settings")) _ one n first in
    let (t, ts, v, e2, exact, rest2) = peeled (exactly (codes "insert_quorum")) _ ss n others in
    inr (
      s,
      ss ++ (rest ++ more),
      ap (λ l. l ++ more) (sym parts) ∙ append_assoc one rest more ∙ ap (λ l. l ++ (rest ++ more)) e,
      subst Known (ap (λ l. l ++ (rest ++ more)) (sym e2)) (known_word t (ts ++ (rest ++ more)) (among_exactly (codes "insert_quorum") t v exact)),
    )

quorum_later : (may_set : Bool) (table : List ℕ) (columns : Option (List (List ℕ))) (prefix more : List Spot) (a : Act × ℕ) → (quorum_and_rows may_set table columns).form prefix a → MayFollowTable (prefix ++ more)
quorum_later false table columns prefix more a is = insert_rows_later table columns None prefix more a is
quorum_later true table columns prefix more a is = go is.value is.prefix is.first is.parts is.second
  where
    go : (o : Option ℕ) (one : List Spot) → Maybe quorum_setting.form one o → one ++ is.rest ≡ prefix → (insert_rows table columns o).form is.rest a → MayFollowTable (prefix ++ more)
    go None one first parts second =
        let same : is.rest ++ more ≡ prefix ++ more = ap (λ l. l ++ more) (ap (λ l. l ++ is.rest) (sym first) ∙ parts) in
        subst MayFollowTable same (insert_rows_later table columns None is.rest more a second)
    go (Some n) one first parts second = settings_later one is.rest prefix more n first parts

-- the tokens after INTO, where the first of them is the table's name
into_later : (may_set : Bool) (prefix more : List Spot) (a : Act × ℕ) → (into may_set).form prefix a → (t : Spot) × (ts : List Spot) × (prefix ++ more ≡ t ∷ ts) × MayFollowTable ts
unfolding into
into_later may_set prefix more a is =
    let (s, ss, w, e, reads_as, others) = peeled a_word _ prefix a is in
    (s, ss ++ more, ap (λ l. l ++ more) e, go w ss others.rest others.value others.prefix others.first others.parts others.second)
  where
    go : (w : List ℕ) (ss rest : List Spot) (o : Option (List (List ℕ))) (one : List Spot) → Maybe names_in_parentheses.form one o → one ++ rest ≡ ss → (quorum_and_rows may_set w o).form rest a → MayFollowTable (ss ++ more)
    go w ss rest None one first parts second =
        let same : rest ++ more ≡ ss ++ more = ap (λ l. l ++ more) (ap (λ l. l ++ rest) (sym first) ∙ parts) in
        subst MayFollowTable same (quorum_later may_set w None rest more a second)
    go w ss rest (Some columns) one first parts second =
        let whole : one ++ (rest ++ more) ≡ ss ++ more = sym (append_assoc one rest more) ∙ ap (λ l. l ++ more) parts in
        inl (subst (λ l. next_among opening l ≡ true) whole (names_in_parentheses_law.starts one (rest ++ more) columns first))

-- after the table's name: no parenthesis, or one and a name
abbrev Named : List Spot → Type 0
Named ts = (next_among quorum_firsts ts ≡ true) ⊎ ((o : Spot) × (later : List Spot) × (ts ≡ o ∷ later) × (among opening o ≡ true) × (next_among (AnyWord ∷ []) later ≡ true))

names_named : (one rest ss more : List Spot) (columns : List (List ℕ)) → names_in_parentheses.form one columns → one ++ rest ≡ ss → Named (ss ++ more)
unfolding names_in_parentheses
names_named one rest ss more columns first parts =
    let (o, os, v, e, reads_as, others) = peeled (symbol symbols.Open) _ one columns first in
    let begin = names_law.starts others.prefix (others.rest ++ (rest ++ more)) others.value others.first in
    let place : others.prefix ++ (others.rest ++ (rest ++ more)) ≡ os ++ (rest ++ more) = sym (append_assoc others.prefix others.rest (rest ++ more)) ∙ ap (λ l. l ++ (rest ++ more)) others.parts in
    inr (o, os ++ (rest ++ more), ap (λ l. l ++ more) (sym parts) ∙ append_assoc one rest more ∙ ap (λ l. l ++ (rest ++ more)) e, among_symbol o v reads_as, subst (λ l. next_among (AnyWord ∷ []) l ≡ true) place begin)

-- the tokens after INTO, where the second of them is the table's name
table_later : (may_set : Bool) (prefix more : List Spot) (a : Act × ℕ) → (into_table may_set).form prefix a
    → (t : Spot) × (u : Spot) × (ts : List Spot) × (prefix ++ more ≡ t ∷ u ∷ ts) × (among (AnyWord ∷ []) u ≡ true) × Named ts
unfolding into_table into
table_later may_set prefix more a is =
    let (s, ss, v, e, reads_as, others) = peeled (keyword (codes "table")) _ prefix a is in
    let (t, ts, w, e2, is_word, rest) = peeled a_word _ ss a others in
    (s, t, ts ++ more, ap (λ l. l ++ more) e ∙ ap (λ l. s ∷ (l ++ more)) e2, word_law.starts (t ∷ []) [] w is_word, go w ts rest.rest rest.value rest.prefix rest.first rest.parts rest.second)
  where
    go : (w : List ℕ) (ss rest : List Spot) (o : Option (List (List ℕ))) (one : List Spot) → Maybe names_in_parentheses.form one o → one ++ rest ≡ ss → (quorum_and_rows may_set w o).form rest a → Named (ss ++ more)
    go w ss rest None one first parts second =
        let same : rest ++ more ≡ ss ++ more = ap (λ l. l ++ more) (ap (λ l. l ++ rest) (sym first) ∙ parts) in
        inl (subst (λ l. next_among quorum_firsts l ≡ true) same ((quorum_and_rows_law may_set w None).starts rest more a second))
    go w ss rest (Some columns) one first parts second = names_named one rest ss more columns first parts

never_both : (b : Bool) → b ≡ true → b ≡ false → ⊥
never_both b h k = cc

both_next : (cs ds : List Class) → disjoint cs ds ≡ true → (ts : List Spot) → next_among cs ts ≡ true → next_among ds ts ≡ true → ⊥
both_next cs ds apart [] h k = cc
both_next cs ds apart (s ∷ ss) h k = never_both (among ds s) k (disjoint_is cs ds apart s h)

known_clash : (ts : List Spot) → Known ts → Named ts → ⊥
known_clash ts (inl h) (inl k) = both_next (Exactly (codes "insert_quorum") ∷ Keyword (codes "csv") ∷ []) quorum_firsts refl ts h k
known_clash ts (inl h) (inr (o, later, e, opens, words)) = both_next (Exactly (codes "insert_quorum") ∷ Keyword (codes "csv") ∷ []) opening refl ts h (rw e opens)
known_clash ts (inr (o, later, e, opens, lits)) (inl k) = both_next opening quorum_firsts refl ts (rw e opens) k
known_clash ts (inr (o, later, e, opens, lits)) (inr (p, others, e2, opens2, words)) =
    let same : later ≡ others = cc in
    both_next literal_firsts (AnyWord ∷ []) refl others (subst (λ l. next_among literal_firsts l ≡ true) same lits) words

later_clash : (u : Spot) (ts : List Spot) → MayFollowTable (u ∷ ts) → among (AnyWord ∷ []) u ≡ true → Named ts → ⊥
later_clash u ts (inl h) is_word named = both_next opening (AnyWord ∷ []) refl (u ∷ ts) h is_word
later_clash u ts (inr (t, more, e, known)) is_word named = (let same : more ≡ ts = cc in known_clash ts (subst Known same known) named)

-- no line without the keyword begins as one with it does
table_apart : (may_set : Bool) (prefix : List Spot) (a : Act × ℕ) (more : List Spot) (x : (Act × ℕ) × List Spot) → (into may_set).form prefix a → (into_table may_set).read (prefix ++ more) ≡ Ok x → ⊥
table_apart may_set prefix a more x is read =
    let f = (into_table_law may_set).exact.found (prefix ++ more) x.0 x.1 read in
    let (t, ts, e, later) = into_later may_set prefix more a is in
    let (s, u, us, e2, is_word, named) = table_later may_set f.prefix x.1 x.0 f.is in
    let same : ts ≡ u ∷ us = tail_same t s ts (u ∷ us) (sym e ∙ (sym f.parts ∙ e2)) in
    later_clash u us (subst MayFollowTable same later) is_word named
  where
    tail_same : (t s : Spot) (ts ss : List Spot) → t ∷ ts ≡ s ∷ ss → ts ≡ ss
    tail_same t s ts ss h = cc

pub insert_law : (may_set : Bool) → Law (insert may_set) never (word (codes "insert"))
unfolding insert
insert_law may_set =
    law_then _ _ never _ (keyword_law (codes "insert") refl) (λ _. step _ _ never _ (keyword_law (codes "into") refl) (λ _.
    exact_longest _ _ _ _ (into_table_law may_set).exact (into_law may_set).exact (table_apart may_set)))
