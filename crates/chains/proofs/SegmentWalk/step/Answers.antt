-- The loop keeps `Seeking`, and where it stops the call is answered.
use Rattle.chains.proofs.Seeks.{record_far, seek_read, seek_on, seek_found, seek_end}
use Rattle.chains.specs.Call.{at_index, recorded}
use Rattle.chains.specs.FixupChains.{record_at}
use Rattle.runs.specs.Runs.{end}
use Rattle.std.proofs.Common.{◌≡◌, ◌≤◌, length, ap, ap₂, ◌∙◌, arith}
use Rattle.chains.proofs.SegmentWalk.step.Goals as goal

pub unwrap-offset-requires : goal.unwrap-offset-requires
unwrap-offset-requires c = seek_read c.args.s.now c.args.self c.loop-index.invariant c.loop-index-test.true c.read_u32.ensures

pub loop-index-preserved : goal.loop-index-preserved
loop-index-preserved c = seek_on c.args.s.now c.args.self c.loop-index.invariant c.loop-index-test.true c.read_u32.ensures c.unwrap-offset.ensures c.if-offset-ne0.false

pub returns-then-offset-ne0 : goal.returns-then-offset-ne0
returns-then-offset-ne0 c =
    let short : length c.args.s.now ≤ 0xffff_ffff_ffff_ffff = omega arith in
    c.record.ensures
    ∙ ap₂ recorded c.at.ensures
    (c.read_record.ensures ∙ ap (record_at c.args.s.now c.loop-index.index) c.saturating_add-at.ensures ∙ record_far c.args.s.now c.loop-index.index _ short)
    ∙ seek_found c.args.s.now c.args.self c.loop-index.invariant c.loop-index-test.true c.read_u32.ensures c.unwrap-offset.ensures c.if-offset-ne0.true

pub returns : goal.returns
returns c =
    ap end (c.at-2.ensures ∙ ap (λ i. at_index i c.args.self) (omega (arith, c.loop-index.invariant.near)))
    ∙ seek_end c.args.s.now c.args.self c.loop-index.invariant c.loop-index-test.false
