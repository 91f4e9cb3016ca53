use Rattle.std.proofs.Common.{◌≡◌, ◌==◌, ◌+◌, ◌<◌, ◌∙◌, length, map, take, get_or, List, [], ◌∷◌, Bor, ℕ, sym, ap, subst, rules, tests, arith}
use Rattle.std.proofs.lemmas.Iterator.{YieldsList}
use Rattle.std.proofs.lemmas.Iterator.Consumers.{YieldsList-so_far, YieldsList-turn, YieldsList-end, YieldsList-at}
use Rattle.std.proofs.lemmas.Iterator.Splits.{YieldsList-from_slice_split}
use Rattle.std.proofs.lemmas.List.{length-map, map-append, length_push}
use Rattle.std.proofs.lemmas.Result.{err_from_is_err_and}
use Rattle.pl_options.specs.Lines.{lines_of}
use Rattle.pl_options.specs.Settings.{Sets}
use Rattle.pl_options.proofs.Texts.{one_set, few_taken, few_lines, refused}
use Rattle.pl_options.proofs.settings.read_lines.Given as given
use Rattle.pl_options.proofs.settings.read_lines.Goals as goal
use Rattle.pl_options.proofs.settings.read_lines.Goals.{After-into_iter-line-iterator}

-- the loop goes over the lines of the text
gives : (c : After-into_iter-line-iterator) → YieldsList (given.iterator-loop-line).next_gives (λ x. x.now) c.into_iter-line-iterator.result (lines_of c.args.bytes.now)
gives c =
    YieldsList-at c.into_iter-line-iterator.ensures.into_iter_gives
    (YieldsList-from_slice_split _ (λ b. b == 10) c.args.bytes.now c.split-line-items.ensures.rest c.split-line-items.ensures.done c.split-line-items.ensures.closure (λ x r q k. search (rules, tests)))

pub take-requires-clause-taken : goal.take-requires-clause-taken
take-requires-clause-taken c =
    let turn = YieldsList-turn (gives (goal.at.take-requires-clause-taken c).After-into_iter-line-iterator) c.loop-line.yielded _ c.loop-line.yielded_by _ _ c.in-Some.line c.in-Some.is c.next.ensures.steps in
    let few = few_taken _ _ c.loop-line.invariant.read in
    let count : length (map (λ x. x.now) c.loop-line.yielded) ≡ length c.loop-line.yielded = length-map c.loop-line.yielded (λ x. x.now) in
    omega (arith, few_lines c.args.bytes.now, few, turn.0)

pub loop-line-preserved : goal.loop-line-preserved
loop-line-preserved c =
    let took = c.in_ok-take.ensures in
    record {
      can = search rules;
      finite = tt;
      read =
          subst (λ texts. Sets texts c.take.new.self) (sym (map-append (λ x. x.now) c.loop-line.yielded (c.in-Some.line ∷ [])))
          (one_set _ c.in-Some.line.now _ c.take.new.self took.0 c.loop-line.invariant.read took.1 took.2);
      number = ap (λ n. n + 1) c.loop-line.invariant.number ∙ sym (length_push c.loop-line.yielded c.in-Some.line);
    }

pub returns-in_err-take : goal.returns-in_err-take
returns-in_err-take c =
    let loop = (goal.at.returns-in_err-take c).After-into_iter-line-iterator in
    let turn = YieldsList-turn (gives loop) c.loop-line.yielded _ c.loop-line.yielded_by _ _ c.in-Some.line c.in-Some.is c.next.ensures.steps in
    let texts = map (λ (x : Bor (List ℕ)). x.now) c.loop-line.yielded in
    let count : length texts ≡ length c.loop-line.yielded = length-map c.loop-line.yielded (λ x. x.now) in
    let front : texts ≡ take (length texts) (lines_of c.args.bytes.now) =
    YieldsList-so_far (gives loop) c.loop-line.yielded _ c.loop-line.yielded_by ∙ ap (λ n. take n (lines_of c.args.bytes.now)) (sym count) in
    let within : length texts < length (lines_of c.args.bytes.now) = omega (arith, turn.0) in
    let here : c.in-Some.line.now ≡ get_or (lines_of c.args.bytes.now) (length texts) c.in-Some.line.now =
    turn.1 ∙ ap (λ n. get_or (lines_of c.args.bytes.now) n c.in-Some.line.now) (sym count) in
    let p = err_from_is_err_and c.from_residual.result c.from_residual.ensures.1 in
    rw (p.1, p.2)
    (refused texts c.args.bytes.now c.in-Some.line.now _ (c.loop-line.number + 1) c.in_err-take.field-0.0 c.loop-line.invariant.read front within here (omega (arith, c.loop-line.invariant.number)) c.in_err-take.ensures)

pub returns : goal.returns
returns c =
    let all = YieldsList-end (gives (goal.at.returns c).After-into_iter-line-iterator) c.loop-line.yielded _ c.loop-line.yielded_by _ _ c.in-None.is c.next.ensures.steps in
    subst (λ texts. Sets texts c.loop-line.set) all.0 c.loop-line.invariant.read
