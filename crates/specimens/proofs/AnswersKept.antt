-- Every answer of the list keeps its promise, by computation.
use mathlib.Core.Path.{refl}
use Rattle.binder.specs.Names.{fetch_verdict, fresh_binder, put_verdict, under}
use Rattle.coated.specs.Answers.{fit_verdict}
use Rattle.coated.specs.Fitting.{fit_of, nearest_amount, nearest_turn, rotates_to}
use Rattle.density.specs.Choose.{choose}
use Rattle.density.specs.Density.{all_rows, density}
use Rattle.density.specs.Drawers.{open_verdict}
use Rattle.density.specs.Lengths.{drawer_length}
use Rattle.density.specs.Necklaces.{begins, is_kind, is_necklace_of, necklaces, of_kind}
use Rattle.density.specs.Ranks.{rank}
use Rattle.density.specs.Rows.{is_padded}
use Rattle.drawer_input.specs.Input.{limit_at, read_drawer, values_at}
use Rattle.necklace.specs.Class.{class_verdict}
use Rattle.necklace.specs.Key.{key_verdict}
use Rattle.offers.specs.Offers.{look_of, offers_so, same_offer, take_of, take_verdict}
use Rattle.pascal.specs.Answers.{ways_verdict}
use Rattle.pitches.specs.Answers.{list_verdict, row_verdict}
use Rattle.pitches.specs.Pitches.{adds_up, ends_in_one, first_zero, has_pitch_list, pitches_from, pitches_of_row}
use Rattle.prefix.specs.Question.{question_verdict}
use Rattle.ranking.specs.Answers.{is_counted, rank_verdict, unrank_verdict}
use Rattle.refusal.specs.Verdicts.{are_stations}
use Rattle.specimens.specs.Answered.{Keep, answers}
use Rattle.text.specs.Ascii.{ascii}
use Rattle.text.specs.Parts.{belongs, is_numeral, numeral_at, run, spaced_at, value_from}
use Rattle.walk.specs.Fit.{fit, fit_at, fit_sizes}
use Rattle.walk.specs.Moves.{move_at}
use Rattle.walk.specs.Step.{enough, step_of}
use Rattle.walk.specs.Step as moves
use Rattle.walk_records.specs.SameWalks.{same_standing, same_walk}
use Rattle.words.specs.Difference.{first_difference}
use Rattle.words.specs.Order.{cmp, le, lt, same}
use Rattle.words.specs.Reversal.{is_bracelet, lower_of, turned_key}
use Rattle.words.specs.Rotation.{is_least_at, is_lyndon, is_necklace, least_index, least_rotation, period, rotation}
use Rattle.words.specs.Symbols.{all_up_to, first_where, first_wrong, sum}
use Rattle.words.specs.Tests.{all_below, any, first_from, is_prefix, keep, some_below}

pub answers-keep : Keep answers
unfolding answers ascii key_verdict class_verdict fit_verdict question_verdict row_verdict list_verdict ways_verdict
    rank_verdict unrank_verdict open_verdict put_verdict fetch_verdict are_stations is_kind is_counted first_wrong first_where
    first_zero adds_up has_pitch_list ends_in_one pitches_from pitches_of_row sum cmp le lt same all_below some_below first_from
    keep any is_prefix rotation is_necklace is_lyndon period is_least_at least_index least_rotation lower_of turned_key
    is_bracelet rotates_to nearest_amount nearest_turn fit_of density all_rows is_necklace_of necklaces begins of_kind rank
    drawer_length choose fresh_binder under fit fit_at fit_sizes is_padded all_up_to read_drawer values_at limit_at spaced_at
    numeral_at is_numeral value_from run belongs step_of moves.run enough move_at look_of take_of take_verdict offers_so
    first_difference same_offer same_walk same_standing
answers-keep = (refl, (refl, (refl, (refl, (refl, (refl, (refl, (refl, (refl, (refl, (refl, (refl, (refl, (refl, (refl, (refl, (refl, (refl, (refl, (refl, (refl, (refl, (refl, (refl, (refl, (refl, (refl, (refl, (refl, (refl, (refl, (refl, (refl, (refl, (refl, (refl, (refl, (refl, (refl, (refl, (refl, (refl, (refl, (refl, (refl, (refl, (refl, (refl, (refl, (refl, (refl, (refl, (refl, (refl, (refl, (refl, (refl, (refl, tt))))))))))))))))))))))))))))))))))))))))))))))))))))))))))
