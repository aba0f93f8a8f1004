use Rattle.std.proofs.Common.{rules, arith, ℕ, ◌∙◌, ◌^◌, ◌≤◌, ap, length, refl, sum_by}
use Rattle.std.specs.List.{slice_get, filter_map, range_with_len}
use Rattle.std.proofs.lemmas.List.FromFn.{length-range_with_len}
use Rattle.std.proofs.lemmas.Iterator.{YieldsList-from_range, YieldsList-from_map}
use Rattle.std.proofs.lemmas.Iterator.Adapters.{fits_from_length, at_most_from_yields_List}
use Rattle.std.proofs.lemmas.Iterator.Consumers.{YieldsList-at, YieldsList-from_filter_map, sum_by_from_yields_List}
use Rattle.desk.proofs.Summing.{read_all, at_most_at, at_most_from_filter_map}
use Rattle.desk.proofs.amounts.held.Goals as goal

-- fewer than 2 ^ 64 places are asked for, of any book, and each record holds fewer units
pub sum-requires-clause-fits : goal.sum-requires-clause-fits
sum-requires-clause-fits g c =
    let most : ℕ = 18446744073709551615 in
    let count : c.count.result ≤ most = search rules in
    let places = YieldsList-from_range 0 c.count.result c.count.result refl (omega arith) in
    fits_from_length _ _ most (2 ^ 128)
    (at_most_at c.map.ensures.source (at_most_from_filter_map _ (at_most_from_yields_List (YieldsList-at c.filter_map-holders.ensures.source places) (omega (arith, count, length-range_with_len 0 c.count.result)))))
    c.map.ensures.closure
    (omega arith)
    (λ x r q k. search (rules, k))

-- the records are those at each place
pub returns : goal.returns
returns g c = λ sound.
    let rs = (g.B.AccountBook.contents c.args.book.now).records in
    let places = YieldsList-from_range 0 c.count.result (length rs) refl (omega (arith, c.count.ensures sound)) in
    sum_by_from_yields_List (λ r. r.held) (filter_map (slice_get rs) (range_with_len 0 (length rs))) _ c.sum.result c.sum.ensures.ran
    (YieldsList-from_map _ (λ r. r.held)
    (YieldsList-at c.map.ensures.source (YieldsList-from_filter_map _ (slice_get rs) (YieldsList-at c.filter_map-holders.ensures.source places) c.filter_map-holders.ensures.closure (λ x r q k. search (rules, k, sound))))
    c.map.ensures.closure
    (λ x r q k. search (rules, k)))
    ∙ ap (sum_by (λ r. r.held)) (read_all rs)
