use Rattle.answer_laws.proofs.Replies.{one_reply_told, one_reply_unread, one_answer}
use Rattle.answer_laws.proofs.one_output.Goals as goal

pub returns-clause-unread : goal.returns-clause-unread
returns-clause-unread c words input s out other reads here there = (one_answer here there (one_reply_unread reads here.right there.right)).1

pub returns-clause-told : goal.returns-clause-told
returns-clause-told c words left s out other here there = (one_answer here there (one_reply_told here.right there.right)).1
