use Rattle.load_maker.specs.Loads.{header, line_text}
use Rattle.std.proofs.Common.{rules}
use Rattle.load_maker.proofs.LoadLaws.{load-parts, text-grows, settles-grow, stream-moves}
use Rattle.load_maker.proofs.load.schedule_of.Goals as goal

pub loop-before-preserved : goal.loop-before-preserved
loop-before-preserved c =
    let at = c.loop-before.invariant in
    let drawn = c.next_draw-draw in
    record {
      text = text-grows c.args.seed c.loop-before.before c.loop-before.stream drawn.result (line_text header) c.loop-before.text.items
          c.put_transaction.new.out.items at.stream drawn.ensures.drawn at.text c.in_ok-put_transaction.ensures;
      settled = settles-grow c.args.seed c.loop-before.before c.loop-before.stream drawn.result c.loop-before.settles.items
          c.put_settle.new.out.items at.stream drawn.ensures.drawn at.settled c.in_ok-put_settle.ensures;
      stream = stream-moves c.args.seed c.loop-before.before c.loop-before.stream drawn.new.stream at.stream drawn.ensures.moved;
    }

pub returns : goal.returns
returns c = search (rules, load-parts)
