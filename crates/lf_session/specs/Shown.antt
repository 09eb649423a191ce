-- What a reply of the program stands for.
use Rattle.std.specs.Prelude.{List, [], ℕ}
use Rattle.std.specs.Arc.{arc_value}
use Rattle.lf_model.specs.declared.document.Doc.{Doc}
use Rattle.lf_model.specs.declared.document.Doc.TheVariants as doc
use Rattle.lf_session.specs.declared.reply.Body.{Body}
use Rattle.lf_session.specs.declared.reply.Body.TheVariants as body
use Rattle.lf_session.specs.declared.reply.Reply.{Reply as Answer}
use Rattle.lf_session.specs.Replies.{Reply}

-- the text of a document; an error or a limit has none of its own
abbrev pub text_of : Doc → List ℕ
text_of (doc.Bytes text) = text
text_of (doc.Refused error) = []
text_of (doc.Over limit) = []

abbrev pub body_of : Body → List ℕ
body_of (body.Short bytes) = bytes.items
body_of (body.Long text) = text
body_of (body.Document document) = text_of (arc_value document)

abbrev pub shown : Answer → Reply
shown answer =
    record {
      status = answer.status;
      ld_json = answer.ld_json;
      allow = answer.allow;
      version = answer.version;
      body = body_of answer.body;
    }
