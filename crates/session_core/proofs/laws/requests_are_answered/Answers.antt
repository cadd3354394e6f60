use Rattle.session_core.proofs.AskingLemmas.{asks_words, end_asks, replies_split, welcome_asks}
use Rattle.session_core.proofs.laws.requests_are_answered.Goals as goal

pub returns : goal.returns
returns c = record {
  asks = asks_words;
  behind = replies_split;
  welcome = welcome_asks;
  end = end_asks;
}
