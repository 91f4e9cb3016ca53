use Rattle.std.proofs.Common.{◌≡◌, arith}
use Rattle.std.proofs.lemmas.List.Elements.{All-same}
use Rattle.pl_adhesion.specs.Brim.{brim_of}
use Rattle.pl_adhesion.specs.NearLoops.{IsNearLoop}
use Rattle.pl_adhesion.proofs.BrimLemmas.{spread_more, spread_all, near_brim, brim_empty}
use Rattle.pl_adhesion.proofs.spreading.brim.Goals as goal

pub loop-preserved : goal.loop-preserved
loop-preserved c = spread_more _ _ _ _ _ _ _ _ c.loop.invariant c.in_ok-plane-2.ensures c.in_ok-loops.ensures c.in_ok-put_reversed.ensures

pub returns-clause-near : goal.returns-clause-near
returns-clause-near c =
    let last : c.loop.counter ≡ c.args.width = omega arith in
    let all : c.reverse.new.self.items ≡ brim_of c.args.bed.now c.args.width = spread_all c.args.bed.now c.args.width c.loop.counter _ _ _ c.loop.invariant last c.reverse.ensures.items in
    All-same IsNearLoop _ _ all (near_brim c.args.bed.now c.args.width c.requires.bed c.requires.width)

pub returns-clause-none : goal.returns-clause-none
returns-clause-none c =
    let last : c.loop.counter ≡ c.args.width = omega arith in
    brim_empty c.args.bed.now c.args.width _ (spread_all c.args.bed.now c.args.width c.loop.counter _ _ _ c.loop.invariant last c.reverse.ensures.items)
