use Rattle.rmt_table_model.proofs.TableLemmas.{allocate-steps, commit-steps, abandon-steps, mutation-steps, drop-steps, merge-steps, mutate-steps, pull-steps, note-steps, open-steps, close-steps}
use Rattle.rmt_table_model.proofs.UndoneLemmas.{open-undone}
use Rattle.rmt_table_model.proofs.laws.each_call_keeps_a_table.Goals as goal

pub returns-clause-allocate : goal.returns-clause-allocate
returns-clause-allocate c = λ bytes t v p s is m. allocate-steps bytes t v is p s m

pub returns-clause-commit : goal.returns-clause-commit
returns-clause-commit c = λ bytes t v p n digest source need values is m. commit-steps bytes t v is p n digest source need values m

pub returns-clause-abandon : goal.returns-clause-abandon
returns-clause-abandon c = λ bytes t v p n is h. abandon-steps bytes t v is p n h

pub returns-clause-mutation : goal.returns-clause-mutation
returns-clause-mutation c = λ bytes t v command is m. mutation-steps bytes t v is command m

pub returns-clause-drop : goal.returns-clause-drop
returns-clause-drop c = λ bytes t v p locks is m are. drop-steps bytes t v is p locks m are

pub returns-clause-merge : goal.returns-clause-merge
returns-clause-merge c = λ bytes t v a b rest is m. merge-steps bytes t v is a b rest m

pub returns-clause-mutate : goal.returns-clause-mutate
returns-clause-mutate c = λ bytes t v old number upto is m. mutate-steps bytes t v is old number upto m

pub returns-clause-pull : goal.returns-clause-pull
returns-clause-pull c = λ bytes t v r is here other. pull-steps bytes t v is r here other

pub returns-clause-note : goal.returns-clause-note
returns-clause-note c = λ bytes t v r q is e new small. note-steps bytes t v is r q e new small

pub returns-clause-open : goal.returns-clause-open
returns-clause-open c = λ bytes t v r s is here none least. open-steps bytes t v is r s here none least

pub returns-clause-open_undone : goal.returns-clause-open_undone
returns-clause-open_undone c = λ bytes t v s is closed. open-undone bytes t v is s closed

pub returns-clause-close : goal.returns-clause-close
returns-clause-close c = λ bytes t v r s is here was. close-steps bytes t v is r s here was
