use Rattle.std.proofs.Common.{arith, ◌≡◌, ◌-◌, ◌+◌}
use Rattle.laps.proofs.Names.{full, halts, goes_on}
use Rattle.laps.proofs.exports.laps_trie.Goals as goal

pub returns-in_default : goal.returns-in_default
returns-in_default c =
    halts c.args.trie.now (c.args.limit - c.loop.counter) c.loop.sum c.loop.w c.loop.name c.loop.invariant (omega arith) c.step-told.ensures c.in_default.not-Export

pub loop-preserved : goal.loop-preserved
loop-preserved c =
    let down : c.args.limit - (c.loop.counter + 1) ≡ c.args.limit - c.loop.counter - 1 = omega arith in
    rw down (goes_on c.args.trie.now (c.args.limit - c.loop.counter) c.loop.sum c.loop.w c.loop.name c.loop.invariant (omega arith) c.step-told.ensures c.in-Export.is)

pub returns : goal.returns
returns c = full c.args.trie.now (c.args.limit - c.loop.counter) c.loop.sum c.loop.w c.loop.name c.loop.invariant (omega arith)
