use Rattle.std.proofs.Common.{◌≡◌, Ok, map}
use Rattle.std.proofs.lemmas.Result.{err_from_is_err_and}
use Rattle.rmt_sql_tokens.specs.Lexing.{tokens}
use Rattle.rmt_sql_tokens.specs.Exact.{always, Fails}
use Rattle.rmt_sql_tokens.proofs.Laws.{on_last}
use Rattle.rmt_sql_tokens.proofs.Loops.{left_stop, left_fails, left_on, takes_some}
use Rattle.rmt_sql_acts.specs.Phrases.{further, comma}
use Rattle.rmt_sql_acts.proofs.PhraseLaws.{law_further}
use Rattle.rmt_sql_acts.specs.Views.{called_item}
use Rattle.rmt_sql_acts.specs.Acts.{select_item}
use Rattle.rmt_sql_acts.proofs.SelectLaws.{on_select_item, select_item_law}
use Rattle.rmt_sql_acts.proofs.selects.more_select_items.Goals as goal

pub returns-in_default : goal.returns-in_default
returns-in_default c = left_stop always comma (λ all. (further select_item all).read) (map called_item c.items.all.items) (tokens c.items.rest) _ c.items.invariant c.in_default.ensures

pub returns-in_err-rest : goal.returns-in_err-rest
returns-in_err-rest c =
    let p = err_from_is_err_and c.from_residual.result c.from_residual.ensures.1 in
    let fails : Fails c.in_err-rest.field-0.0 ((further select_item (map called_item c.items.all.items)).read (tokens c.items.rest)) = rw c.in-Some.ensures.1 c.in_err-rest.ensures in
    rw (p.1, p.2) (left_fails always comma (λ all. (further select_item all).read) (map called_item c.items.all.items) (tokens c.items.rest) _ c.in_err-rest.field-0.0 c.items.invariant c.in-Some.ensures.0 fails)

pub items-smaller : goal.items-smaller
items-smaller c =
    let read : (further select_item (map called_item c.items.all.items)).read (tokens c.items.rest) ≡ Ok ((map called_item c.item_selected.new.all.items), tokens c.in_ok-rest.rest) = rw c.in-Some.ensures.1 c.in_ok-rest.ensures in
    takes_some (further select_item (map called_item c.items.all.items)) (on_last on_select_item) comma (law_further select_item on_select_item _ select_item_law (map called_item c.items.all.items)) (tokens c.items.rest) (map called_item c.item_selected.new.all.items) (tokens c.in_ok-rest.rest) read

pub items-preserved : goal.items-preserved
items-preserved c =
    let read : (further select_item (map called_item c.items.all.items)).read (tokens c.items.rest) ≡ Ok ((map called_item c.item_selected.new.all.items), tokens c.in_ok-rest.rest) = rw c.in-Some.ensures.1 c.in_ok-rest.ensures in
    let less = takes_some (further select_item (map called_item c.items.all.items)) (on_last on_select_item) comma (law_further select_item on_select_item _ select_item_law (map called_item c.items.all.items)) (tokens c.items.rest) (map called_item c.item_selected.new.all.items) (tokens c.in_ok-rest.rest) read in
    left_on always comma (λ all. (further select_item all).read) (map called_item c.items.all.items) (tokens c.items.rest) (map called_item c.item_selected.new.all.items) (tokens c.in_ok-rest.rest) _ c.items.invariant less c.in-Some.ensures.0 read
