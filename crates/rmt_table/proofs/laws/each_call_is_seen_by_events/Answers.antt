use Rattle.rmt_table.proofs.CallBridge.{allocate-bridge, commit-bridge, abandon-bridge, drop-bridge, mutation-bridge, merge-bridge, mutate-bridge, pull-bridge, note-bridge, open-bridge, close-bridge}
use Rattle.rmt_table.proofs.laws.each_call_is_seen_by_events.Goals as goal

pub returns-clause-allocate : goal.returns-clause-allocate
returns-clause-allocate c = λ v r s p digest sound opened m clients unkept. allocate-bridge v sound r s p digest opened m clients unkept

pub returns-clause-commit : goal.returns-clause-commit
returns-clause-commit c = λ v p n digest source need values sound m. commit-bridge v sound p n digest source need values m

pub returns-clause-abandon : goal.returns-clause-abandon
returns-clause-abandon c = λ v p n sound. abandon-bridge v sound p n

pub returns-clause-drop : goal.returns-clause-drop
returns-clause-drop c = λ v p sound m. drop-bridge v sound p m

pub returns-clause-mutation : goal.returns-clause-mutation
returns-clause-mutation c = λ v command sound m. mutation-bridge v sound command m

pub returns-clause-merge : goal.returns-clause-merge
returns-clause-merge c = λ v a b rest sound m quiet. merge-bridge v sound a b rest m quiet

pub returns-clause-mutate : goal.returns-clause-mutate
returns-clause-mutate c = λ v old number upto m. mutate-bridge v old number upto m

pub returns-clause-pull : goal.returns-clause-pull
returns-clause-pull c = λ v r. pull-bridge v r

pub returns-clause-note : goal.returns-clause-note
returns-clause-note c = λ v r. note-bridge v r

pub returns-clause-open : goal.returns-clause-open
returns-clause-open c = λ v r s sound none m. open-bridge v sound r s none m

pub returns-clause-close : goal.returns-clause-close
returns-clause-close c = λ v r s sound here was. close-bridge v sound r s here was
