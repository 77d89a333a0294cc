use Rattle.std.proofs.Common.{arith}
use Rattle.rmt_replica.proofs.PullLemmas.{prefix-length, replica-longer, lengthens, view-whole}
use Rattle.rmt_replica.proofs.replica.Replica.pull.Goals as goal

pub invariant_of-self-in_err-pulled : goal.invariant_of-self-in_err-pulled
invariant_of-self-in_err-pulled c =
    let i = c.self.inside in
    let p = c.pull-pulled.ensures in
    let w = prefix-length _ _ p.prefix in
    replica-longer i.number i.up i.fetches i.copy c.pull-pulled.new.copy i.queue c.grow.new.self _ i.parts.parts i.staged i.noted.items c.self.invariant c.in_ok-grow.ensures.ok p.schema p.longer (omega arith) c.len.ensures.lawful

pub returns-in_err-pulled-clause-longer : goal.returns-in_err-pulled-clause-longer
returns-in_err-pulled-clause-longer c =
    let i = c.self.inside in
    let p = c.pull-pulled.ensures in
    let w = prefix-length _ _ p.prefix in
    lengthens i.number i.up i.fetches i.copy c.pull-pulled.new.copy i.queue c.grow.new.self _ i.parts.parts i.staged i.noted.items c.self.invariant c.in_ok-grow.ensures.ok p.schema p.longer (omega arith) c.args.self.now c.self.view_is

pub invariant_of-self-2 : goal.invariant_of-self-2
invariant_of-self-2 c =
    let i = c.self.inside in
    let p = c.pull-pulled.ensures in
    let w = prefix-length _ _ p.prefix in
    replica-longer i.number i.up i.fetches i.copy c.pull-pulled.new.copy i.queue c.grow.new.self _ i.parts.parts i.staged i.noted.items c.self.invariant c.in_ok-grow.ensures.ok p.schema p.longer (omega arith) c.len.ensures.lawful

pub returns-clause-longer : goal.returns-clause-longer
returns-clause-longer c =
    let i = c.self.inside in
    let p = c.pull-pulled.ensures in
    let w = prefix-length _ _ p.prefix in
    lengthens i.number i.up i.fetches i.copy c.pull-pulled.new.copy i.queue c.grow.new.self _ i.parts.parts i.staged i.noted.items c.self.invariant c.in_ok-grow.ensures.ok p.schema p.longer (omega arith) c.args.self.now c.self.view_is

pub returns-clause-ok : goal.returns-clause-ok
returns-clause-ok c =
    let i = c.self.inside in
    let p = c.pull-pulled.ensures in
    let w = prefix-length _ _ p.prefix in
    view-whole i.number i.up i.fetches i.copy c.pull-pulled.new.copy i.queue c.grow.new.self _ i.parts.parts i.staged i.noted.items c.self.invariant c.in_ok-grow.ensures.ok p.schema p.longer (omega arith) c.args.self.now c.args.tree.now.log c.self.view_is c.in_ok-pulled.ensures.copied
