-- What push's arguments say.
use Rattle.writer.specs.Loading.{Push, push_args}
use Rattle.writer_push.specs.declared.PushArgs.{PushArgs}

-- The push that the arguments say.
abbrev pub push_said : PushArgs → Push
push_said p = push_args p.channels p.left p.right p.left_data.now p.right_data.now p.last
