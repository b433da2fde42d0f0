-- Each edge, by computation.
use Rattle.std.proofs.Common.{refl, arith}
use Rattle.std.proofs.lemmas.Bool.Decides.{nat_tests}
use Rattle.retiring.specs.Edges.{Edges}

pub edges : Edges
edges = record {
  most_records = λ bytes h c l. grind (arith, nat_tests, h, c, l);
  one_record_more = λ bytes h c. grind (arith, nat_tests, h, c);
  refused_for_count = refl;
  handler_at_count = λ bytes h l m e. grind (arith, nat_tests, h, l, m, e);
  refused_for_handler = refl;
  one_stage = λ bytes h e. grind (arith, nat_tests, h, e);
  seventeen_stages = λ bytes h e. grind (arith, nat_tests, h, e);
  refused_for_stages = refl;
  quotient_by_zero = λ handler words. refl;
  jump_past_the_end = λ table i j handler words. refl;
  one_place_short = λ s t P h. rw h refl;
  refused_for_room = refl;
}
