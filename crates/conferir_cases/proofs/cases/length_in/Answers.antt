use Rattle.std.proofs.Common.{◌≡◌, ◌+◌, ◌-◌, length, take, drop, sym, rules, arith}
use Rattle.std.proofs.lemmas.List.{drop_more, take_all, length-drop, take-append-drop}
use Rattle.conferir_cases.proofs.cases.length_in.Goals as goal

pub returns-in-10 : goal.returns-in-10
returns-in-10 c =
    let bytes = c.args.bytes.now in
    let at = c.loop-at.at in
    let behind : take (length bytes - (at + 1)) (drop (at + 1) bytes) ≡ drop (at + 1) bytes = take_all (length bytes - (at + 1)) (drop (at + 1) bytes) (omega (arith, length-drop (at + 1) bytes)) in
    let next = drop_more bytes at 0 c.loop-at-test.true in
    record {
      digits = take at bytes;
      whole = search (rules, behind, next, take-append-drop, sym, c.in-10.is);
    }
