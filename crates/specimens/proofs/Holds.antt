-- Every starred specimen holds, by computation.
use mathlib.Core.List.{head_d}
use mathlib.Core.Path.{refl}
use Rattle.binder.specs.Names.{fetch_verdict, fresh_binder, put_verdict, under}
use Rattle.coated.specs.Fitting.{fit_of, nearest_amount, nearest_turn, rotates_to}
use Rattle.density.specs.Choose.{choose}
use Rattle.density.specs.Density.{all_rows, density}
use Rattle.density.specs.Lengths.{drawer_length}
use Rattle.density.specs.Necklaces.{begins, is_kind, is_necklace_of, largest_necklace, necklaces, necklaces_of_kind, of_kind}
use Rattle.density.specs.Ranks.{necklace_at, rank}
use Rattle.density.specs.Rows.{is_padded}
use Rattle.mixed_calls.specs.Calls.{call_answers}
use Rattle.offers.specs.Offers.{look_of, offers_so, same_offer, take_of, take_verdict}
use Rattle.pitches.specs.Pitches.{pitches_from, pitches_of_row}
use Rattle.refusal.specs.Verdicts.{are_stations}
use Rattle.specimens.specs.Starred.{Say, records, starred}
use Rattle.text.specs.Ascii.{ascii}
use Rattle.walk.specs.Fit.{fit, fit_at, fit_sizes}
use Rattle.walk.specs.Moves.{move_at}
use Rattle.walk.specs.Opening.{open_verdict}
use Rattle.walk.specs.Step.{enough, run, step_of, walk_placed}
use Rattle.walk_records.specs.SameWalks.{same_standing, same_walk}
use Rattle.words.specs.Difference.{first_difference}
use Rattle.words.specs.Order.{cmp, le, lt, same}
use Rattle.words.specs.Pairs.{cut, pairs, up_to_unequal}
use Rattle.words.specs.Reversal.{is_bracelet, lower_of, turned_key}
use Rattle.words.specs.Rotation.{is_least_at, is_lyndon, is_necklace, least_index, least_rotation, period, rotation}
use Rattle.words.specs.Symbols.{all_up_to, first_where, first_wrong}
use Rattle.words.specs.Tests.{all_below, any, first_from, is_prefix, keep, some_below}

pub starred_hold : Say starred
unfolding starred records ascii open_verdict are_stations first_wrong first_where first_difference cmp le lt same pairs cut
    up_to_unequal all_below some_below first_from keep any is_prefix rotation is_necklace period is_least_at least_index
    least_rotation lower_of turned_key is_bracelet rotates_to nearest_amount nearest_turn fit_of density all_rows is_necklace_of
    necklaces head_d largest_necklace begins pitches_from pitches_of_row walk_placed step_of fit fit_at fit_sizes is_padded
    all_up_to run enough move_at is_kind of_kind is_lyndon rank necklaces_of_kind necklace_at drawer_length choose call_answers
    put_verdict fetch_verdict under fresh_binder look_of take_of take_verdict offers_so same_offer same_walk same_standing
starred_hold = ((refl, refl, refl), ((refl, refl, refl), (refl, (refl, (refl, (refl, (refl, ((refl, refl, refl), ((refl, refl, refl), ((refl, refl, refl), (refl, (refl, (refl, (refl, (refl, (refl, (refl, (refl, (refl, (refl, (refl, (refl, (refl, (refl, (refl, (refl, (refl, (refl, (refl, (refl, (refl, (refl, (refl, (refl, (refl, (refl, (refl, (refl, (refl, (refl, tt))))))))))))))))))))))))))))))))))))))))
