use Rattle.ov_protocol.proofs.OneAnswer.{alike_answers, one_answer}
use Rattle.ov_protocol.proofs.OneReply.{alike_replies, one_reply}
use Rattle.ov_protocol.proofs.laws.one_answer.Goals as goal

pub returns : goal.returns
returns c = record {
  answer = one_answer;
  reply = one_reply;
  alike = alike_answers;
  alike_replies = alike_replies;
}
